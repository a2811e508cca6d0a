-- C72: the least bound for stretches of excess under lapses is R + D, if D is at most the period. The bound
-- of `Lapses` in `eg_model` is greater, and holds of more calibrations.
use Rattle.std.specs.Prelude.{◌≡◌, ℕ, ◌+◌, ◌-◌, ◌*◌, ◌≤◌, true, false, List, [], ◌++◌, ◌∷◌, All, replicate, Some}
use Rattle.eg_num.specs.Arithmetic.{estimate}
use Rattle.eg_num.specs.Drive.{DriveRow}
use Rattle.eg_torque.specs.declared.ramp.TheConstants.{NO_RAMP}
use Rattle.eg_answer.specs.Times.{feeds_to_confirm, reaction_of, lapse_periods}
use Rattle.eg_values.specs.Calibration.{CalibrationParts, IsAccepted}
use Rattle.eg_fault.specs.Faults.{effects_of, IsNoneOrValid}
use Rattle.eg_fault.specs.declared.class.Class.{Class}
use Rattle.eg_fault.specs.declared.class.Class.TheVariants.{Lapse}
use Rattle.eg_model.specs.History.{Setting, Tick}
use Rattle.eg_model.specs.Premises.{AreProper, Follows}
use Rattle.eg_model.specs.Lapses.{Exceeds, StretchesStayBelow}
use Rattle.eg_laws.specs.LeastReaction.{CanExceed, GoesOn, ShowsWord, giving, by_bits, last_excess}

-- D is at most the period
abbrev pub RunsFit : CalibrationParts → Type 0
RunsFit cal = feeds_to_confirm cal.rules.torque ≤ cal.times.period

-- R + D, in ticks
unfoldable pub least_lapse_bound : CalibrationParts → ℕ
least_lapse_bound cal = reaction_of cal.times + feeds_to_confirm cal.rules.torque

-- C72. No answer is good once D ticks of the stretch have passed, since otherwise level 2 ran at all of them
-- and found the excess.
abbrev pub StretchesAreShorter : Type 0
StretchesAreShorter =
    (cal : CalibrationParts) → IsAccepted cal → cal.rules.fall ≡ NO_RAMP → RunsFit cal →
    StretchesStayBelow cal (least_lapse_bound cal)

-- If D is at most `send + 1`, no excess stands for the whole periods of `CutsStandingExcess` (`eg_model`), so
-- that this law says nothing then.
abbrev pub NoneStandsSoLong : Type 0
NoneStandsSoLong =
    (cal : CalibrationParts) → IsAccepted cal → cal.rules.fall ≡ NO_RAMP →
    feeds_to_confirm cal.rules.torque ≤ cal.times.send + 1 →
    StretchesStayBelow cal (lapse_periods cal.rules.torque cal.times * cal.times.period)

-- ---- the history that shows that no smaller number is a bound ----

-- level 2 misses each tick from this one on: it comes right behind a send tick that leaves room for D ticks
abbrev pub lapse_onset : CalibrationParts → ℕ
lapse_onset cal = last_excess cal

-- level 2 misses every tick from the onset on
abbrev pub missing_all : Class
missing_all = Lapse (0 ∷ []) 1

abbrev pub lapse_setting : CalibrationParts → Setting
lapse_setting cal = record {
  cal = cal;
  image = [];
  fault = Some (record { onset = lapse_onset cal; class = missing_all });
}

-- newest first: quiet ticks, and then D - 1 of excess, one too few to confirm it
abbrev pub before_lapse : CalibrationParts → DriveRow → (load : ℕ) → List Tick
before_lapse cal drive load =
    by_bits cal drive load (replicate (feeds_to_confirm cal.rules.torque - 1) true
    ++ replicate (lapse_onset cal + 1 - feeds_to_confirm cal.rules.torque) false)

-- a tick that level 2 misses, with the same excess
abbrev pub missed_excess : CalibrationParts → DriveRow → (load : ℕ) → Tick
missed_excess cal drive load =
    record { effects = effects_of missing_all 0; entry = giving drive load (estimate cal.rules.kt load) }

-- h is one drive span under the setting's fault, and there is true excess at each of its last n ticks.
pub record Lasts (s : Setting) (h : List Tick) (n : ℕ) : Type 0 where
  pub follows : Follows s.fault 0 h
  pub proper : AreProper s h
  pub goes_on : All GoesOn h
  pub words : All ShowsWord h
  pub exceeds : Exceeds s n h

-- the excess lasts R + D - 1 ticks: D - 1 before the lapse, and R under it
abbrev pub ExcessLastsSoLong : Type 0
ExcessLastsSoLong =
    (cal : CalibrationParts) → IsAccepted cal → (can : CanExceed cal) →
    IsNoneOrValid (lapse_setting cal).fault
    × Lasts (lapse_setting cal)
    (replicate (reaction_of cal.times) (missed_excess cal can.drive can.load)
    ++ before_lapse cal can.drive can.load)
    (least_lapse_bound cal - 1)

-- C72
abbrev pub LapseBoundIsLeast : Type 0
LapseBoundIsLeast =
    (cal : CalibrationParts) → IsAccepted cal → CanExceed cal → (bound : ℕ) →
    StretchesStayBelow cal bound → least_lapse_bound cal ≤ bound
