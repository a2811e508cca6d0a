-- Under a lapse level 2 as a whole doesn't run at some ticks; each stretch of true excess is then shorter
-- than the bound for lapses, if there is one. These may be any ticks, so an excess that comes and goes may
-- never be found. But one that stays is cut soon: either level 2 runs often enough to find it, or too seldom
-- to give the answers that the monitoring module needs.
use Rattle.std.specs.Prelude.{◌≡◌, ℕ, ◌*◌, ◌<◌, ◌≤◌, true, List, length, take, Option, Some}
use Rattle.std.specs.List.{list_all}
use Rattle.eg_answer.specs.Times.{lapse_periods, lapse_bound_of}
use Rattle.eg_values.specs.Calibration.{CalibrationParts, IsAccepted}
use Rattle.eg_values.specs.Excess.{BoundsLapses}
use Rattle.eg_fault.specs.declared.class.Class.TheVariants.{Lapse}
use Rattle.eg_fault.specs.declared.class.Fault.{Fault}
use Rattle.eg_model.specs.History.{Setting, Tick}
use Rattle.eg_model.specs.Premises.{AreProper, Follows, true_excesses}
use Rattle.eg_model.specs.Reaction.{OffFrom}

-- the fault is a lapse, at any ticks from any onset on
pub record IsLapse (fault : Option Fault) : Type 0 where
  pub onset : ℕ
  pub after : List ℕ
  pub every : ℕ
  pub is : fault ≡ Some (record { onset = onset; class = Lapse after every })

-- there is true excess at each of the last n ticks of h
pub record Exceeds (s : Setting) (n : ℕ) (h : List Tick) : Type 0 where
  pub within : n ≤ length h
  pub each : list_all (λ excess. excess) (take n (true_excesses s h)) ≡ true

-- The law of whole periods. Let the calibration be an accepted one with a bound for lapses, and the fault a
-- lapse; let h be a history that ends with the last tick of a period, and let there be true excess at each
-- tick of its last `lapse_periods` periods. Then the stages are off at each tick after h.
-- (No run has such an h where the runs of level 2 that confirm an excess are at most as many as the ticks of
-- a period up to its send tick, as with the reference calibration: `NoneStandsSoLong` of `eg_laws`. There
-- this law says nothing, and the law of stretches, below, does.)
abbrev pub CutsStandingExcess : Type 0
CutsStandingExcess =
    (s : Setting) → IsAccepted s.cal → BoundsLapses s.cal → IsLapse s.fault →
    (start periods : ℕ) (h : List Tick) → length h ≡ periods * s.cal.times.period →
    Exceeds s (lapse_periods s.cal.rules.torque s.cal.times * s.cal.times.period) h → OffFrom s start h 1

-- Under every lapse, each stretch of ticks in a row with true excess is shorter than `bound` ticks. (Here h
-- is the history up to the end of the stretch, and n the ticks of the stretch.)
abbrev pub StretchesStayBelow : CalibrationParts → ℕ → Type 0
StretchesStayBelow cal bound =
    (s : Setting) → s.cal ≡ cal → IsLapse s.fault → (start : ℕ) (h : List Tick) →
    Follows s.fault start h → AreProper s h → (n : ℕ) → Exceeds s n h → n < bound

-- The law of stretches: by an accepted calibration with a bound for lapses each is shorter than the bound.
abbrev pub StretchesAreShort : Type 0
StretchesAreShort =
    (cal : CalibrationParts) → IsAccepted cal → BoundsLapses cal →
    StretchesStayBelow cal (lapse_bound_of cal.rules.torque cal.times)
