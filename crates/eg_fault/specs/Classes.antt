-- What holds of each class of faults, and so of every fault: what it leaves alone, the range that a held
-- plate keeps, which word is flipped, and which module is left out or disturbed.
use Rattle.std.specs.Prelude.{ℕ, ◌≡◌, ◌≢◌, ◌==◌, ◌≤◌, ◌<◌, Bool, true, false, is_some, Option, Some, None, IfSome}
use Rattle.eg_answer.specs.Modules.{AtMostOneIsDisturbed}
use Rattle.eg_answer.specs.declared.modules.TheConstants.{CHECK, MODULES}
use Rattle.eg_answer.specs.declared.words.TheConstants.{STORED_WORDS}
use Rattle.eg_sensor.specs.Brake.{sound_contacts, is_pressed}
use Rattle.eg_fault.specs.Effects.{Effects, contacts_under}
use Rattle.eg_fault.specs.Faults.{effects, IsValid, IsNoneOrValid}
use Rattle.eg_fault.specs.Running.{LeavesOut, RunAlike, may_change_levels}
use Rattle.eg_fault.specs.declared.class.Class.{Class}
use Rattle.eg_fault.specs.declared.class.Class.TheVariants.{Timing, Wild, Path1Closed, Path2Closed}
use Rattle.eg_fault.specs.declared.class.Fault.{Fault}
use Rattle.eg_fault.specs.declared.paths.TheConstants.{PATH_1, PATH_2}

-- ---- tracks ----

-- a track that reads what a sound one reads
abbrev pub IsSound : Effects → ℕ → Type 0
IsSound x i = (v : ℕ) → x.track i v ≡ v

-- under each fault all tracks but one are sound, at each tick
abbrev pub OneTrackIsFaulty : Type 0
OneTrackIsFaulty =
    (fault : Option Fault) → (one : ℕ) × ((tick i : ℕ) → i ≢ one → IsSound (effects fault tick) i)

-- ---- the brake ----

-- so a brake that the driver presses is taken as pressed at each tick, whichever contact isn't sound
abbrev pub PressedBrakesAreSeen : Type 0
PressedBrakesAreSeen =
    (fault : Option Fault) (tick : ℕ) →
    is_pressed (contacts_under (effects fault tick) (sound_contacts true)) ≡ true

-- ---- the plate ----

-- a plate that is held is within its range
abbrev pub IsHeldWithin : Option ℕ → Type 0
IsHeldWithin held = IfSome held (λ at. at ≤ 1000)

-- a held plate is within its range at each tick, without a fault and under each valid one
abbrev pub PlatesAreHeldWithin : Type 0
PlatesAreHeldWithin =
    (fault : Option Fault) → IsNoneOrValid fault → (tick : ℕ) → IsHeldWithin (effects fault tick).held_plate

-- ---- the word that is flipped ----

-- a word of level 2, and at least one of its bits
abbrev pub IsFlip : ℕ × ℕ → Type 0
IsFlip flipped = (flipped.0 < STORED_WORDS) × (1 ≤ flipped.1)

-- what is flipped is such a word at each tick, without a fault and under each valid one
abbrev pub FlipsAreInWords : Type 0
FlipsAreInWords =
    (fault : Option Fault) → IsNoneOrValid fault → (tick : ℕ) → IfSome (effects fault tick).flip IsFlip

-- Where a word is flipped at a tick, module 0 runs at that tick, and so finds the word. The law of a tick
-- (`eg_agree`, `TickLaw`) asks no more of what is out of order.
abbrev pub ChecksFlips : Effects → Type 0
ChecksFlips x = is_some x.flip ≡ true → x.ran CHECK ≡ true

-- module 0 runs at each tick at which a word is flipped, under every fault and without one
abbrev pub FaultsCheckFlips : Type 0
FaultsCheckFlips = (fault : Option Fault) (tick : ℕ) → ChecksFlips (effects fault tick)

-- ---- the module that is left out ----

-- under a valid fault a module that is left out is one of the eight
abbrev pub OneOfEightIsLeftOut : Type 0
OneOfEightIsLeftOut = (fault : Fault) → IsValid fault → (one : ℕ) → LeavesOut fault one → one < MODULES

-- ---- the module that is disturbed ----

-- at most one module is disturbed at each tick, without a fault and under each valid one
abbrev pub FaultsDisturbOne : Type 0
FaultsDisturbOne =
    (fault : Option Fault) → IsNoneOrValid fault → (tick : ℕ) →
    AtMostOneIsDisturbed (effects fault tick).disturbance

-- ---- level 1 and level 2 ----

-- where a class is none of those that may change them, they run as without a fault
abbrev pub OthersSpareLevels : Type 0
OthersSpareLevels =
    (fault : Fault) (tick : ℕ) → may_change_levels fault.class ≡ false →
    RunAlike (effects None tick) (effects (Some fault) tick)

-- ---- questions and answers ----

-- answers are sent at the usual tick of a period, and the monitoring module isn't wild
pub record IsRegular (x : Effects) : Type 0 where
  pub sends : x.send ≡ None
  pub judged : x.wild ≡ None

-- the classes under which a tick may be otherwise
unfoldable pub may_change_answers : Class → Bool
may_change_answers (Timing offset) = true
may_change_answers (Wild questions opens) = true
may_change_answers _ = false

-- under all other classes each tick is regular
abbrev pub OthersSpareAnswers : Type 0
OthersSpareAnswers =
    (fault : Fault) (tick : ℕ) → may_change_answers fault.class ≡ false →
    IsRegular (effects (Some fault) tick)

-- where the monitoring module isn't wild at a tick, it wasn't at any tick before
abbrev pub WildStaysWild : Type 0
WildStaysWild =
    (fault : Option Fault) (earlier later : ℕ) → earlier ≤ later → (effects fault later).wild ≡ None →
    (effects fault earlier).wild ≡ None

-- ---- the shut-off paths ----

-- the classes under which a path conducts though its latch is open
unfoldable pub closes : Class → ℕ → Bool
closes Path1Closed path = path == PATH_1
closes Path2Closed path = path == PATH_2
closes _ path = false

-- under all others a path whose latch is open doesn't conduct
abbrev pub OthersObeyLatches : Type 0
OthersObeyLatches =
    (fault : Fault) (tick path : ℕ) → closes fault.class path ≡ false →
    (effects (Some fault) tick).conducts path true ≡ false
