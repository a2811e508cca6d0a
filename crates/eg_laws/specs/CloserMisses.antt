-- `eg_answer::miss_spacing` and `silent_misses_of` are exact: where misses may lie a tick closer, or where
-- one more may come, there is a history in which wrong answers cut before a trip.
use Rattle.std.specs.Prelude.{◌≡◌, ◌⊎◌, ℕ, zero, suc, ◌-◌, ◌*◌, ◌≤◌, true, false, List, [], ◌∷◌, All, length, Some}
use Rattle.eg_num.specs.Drive.{DriveRow, driven}
use Rattle.eg_answer.specs.Times.{HasMissSpacing, periods_between_misses, miss_spacing_of, silent_misses_of}
use Rattle.eg_values.specs.Calibration.{CalibrationParts, IsAccepted}
use Rattle.eg_fault.specs.Faults.{effects}
use Rattle.eg_fault.specs.declared.class.Class.TheVariants.{Lapse}
use Rattle.eg_model.specs.History.{Setting, Tick}
use Rattle.eg_model.specs.Signals.{tripped}
use Rattle.eg_model.specs.Paths.{latch2}
use Rattle.eg_model.specs.Moments.{moments_of}
use Rattle.eg_model.specs.Premises.{AreProper, Follows}
use Rattle.eg_model.specs.Lapses.{IsLapse}
use Rattle.eg_laws.specs.LeastReaction.{GoesOn, ShowsWord, quiet}
use Rattle.eg_laws.specs.Availability.{MissesAreSpaced, missed_ticks}

-- ---- the history ----

-- level 2 misses the send tick of one in so many periods, and no other tick
abbrev pub sends_missed : CalibrationParts → (periods : ℕ) → Setting
sends_missed cal periods = record {
  cal = cal;
  image = [];
  fault = Some (record {
    onset = cal.times.send;
    class = Lapse (0 ∷ []) (periods * cal.times.period);
  });
}

-- nobody touches the pedal, and the raise is the greatest
abbrev pub raised : DriveRow
raised = driven 0 0 10000

-- the first ticks of a run with this setting, newest first, without torque
unfoldable pub quiet_ticks : Setting → ℕ → List Tick
quiet_ticks s zero = []
quiet_ticks s (suc n) = quiet (effects s.fault n) raised ∷ quiet_ticks s n

-- All ticks of h are ticks of one drive span of a run under the setting's fault, a lapse, in which the engine
-- keeps its laws and tells loads that are words. Path 2 has been ordered open, and no trip has come: so wrong
-- answers were confirmed.
pub record CutsUntripped (s : Setting) (h : List Tick) : Type 0 where
  pub lapse : IsLapse s.fault
  pub follows : Follows s.fault 0 h
  pub proper : AreProper s h
  pub goes_on : All GoesOn h
  pub words : All ShowsWord h
  pub untripped : tripped (moments_of s h) ≡ false
  pub opened : latch2 (moments_of s h) ≡ true

-- ---- the spacing ----

-- where the misses lie one tick closer than the spacing, wrong answers cut in this history
abbrev pub CloserMissesCut : Type 0
CloserMissesCut =
    (cal : CalibrationParts) → IsAccepted cal → HasMissSpacing cal.times →
    CutsUntripped (sends_missed cal (periods_between_misses cal.times))
    (quiet_ticks (sends_missed cal (periods_between_misses cal.times))
    (cal.times.weights.limit * (periods_between_misses cal.times * cal.times.period)))
    × MissesAreSpaced (sends_missed cal (periods_between_misses cal.times)).fault
    (miss_spacing_of cal.times - 1) 0
    (cal.times.weights.limit * (periods_between_misses cal.times * cal.times.period))

-- wrong answers never cut before a trip where misses lie so far apart
abbrev pub SpacedKeepPath2 : CalibrationParts → (distance : ℕ) → Type 0
SpacedKeepPath2 cal distance =
    (s : Setting) → s.cal ≡ cal → IsLapse s.fault → (h : List Tick) → Follows s.fault 0 h → AreProper s h →
    MissesAreSpaced s.fault distance 0 (length h) → tripped (moments_of s h) ≡ false →
    latch2 (moments_of s h) ≡ false

-- no smaller distance than the spacing serves
abbrev pub SpacingIsLeast : Type 0
SpacingIsLeast =
    (cal : CalibrationParts) → IsAccepted cal → HasMissSpacing cal.times → (distance : ℕ) →
    SpacedKeepPath2 cal distance → miss_spacing_of cal.times ≤ distance

-- and none does where right verdicts take nothing back, or two wrong ones confirm
abbrev pub NoSpacingServes : Type 0
NoSpacingServes =
    (cal : CalibrationParts) → IsAccepted cal →
    (cal.times.weights.down ≡ 0) ⊎ (cal.times.weights.limit ≤ 2 * cal.times.weights.up) → (distance : ℕ) →
    ¬ SpacedKeepPath2 cal distance

-- ---- few misses ----

-- wrong answers never cut before a trip where so many ticks are missed in all
abbrev pub FewKeepPath2 : CalibrationParts → (most : ℕ) → Type 0
FewKeepPath2 cal most =
    (s : Setting) → s.cal ≡ cal → IsLapse s.fault → (h : List Tick) → Follows s.fault 0 h → AreProper s h →
    missed_ticks s.fault 0 (length h) ≤ most → tripped (moments_of s h) ≡ false →
    latch2 (moments_of s h) ≡ false

-- no greater number than `silent_misses_of` serves
abbrev pub SilentMissesAreMost : Type 0
SilentMissesAreMost =
    (cal : CalibrationParts) → IsAccepted cal → (most : ℕ) → FewKeepPath2 cal most →
    most ≤ silent_misses_of cal.times
