-- C66: how many rows of a window can have true excess, whether it is confirmed or not. Rows and ticks stand
-- newest first.
use Rattle.std.specs.Prelude.{◌≡◌, ℕ, ◌+◌, ◌*◌, ◌-◌, ◌≤◌, List, ◌++◌, All, length, map, take, min, Option}
use Rattle.eg_num.specs.Arithmetic.{quotient_up}
use Rattle.eg_num.specs.Windows.{WeightParts}
use Rattle.eg_answer.specs.Times.{feeds_to_confirm, reaction_of}
use Rattle.eg_values.specs.Calibration.{CalibrationParts, IsAccepted}
use Rattle.eg_fault.specs.Faults.{IsListed}
use Rattle.eg_fault.specs.declared.class.Fault.{Fault}
use Rattle.eg_record.specs.declared.row.Row.{Row}
use Rattle.eg_record.specs.Excess.{true_excess}
use Rattle.eg_record.specs.Spans.{EachDriveSpan}
use Rattle.eg_model.specs.History.{Setting, Tick}
use Rattle.eg_model.specs.Premises.{AreProper, Follows, true_excesses}
use Rattle.eg_model.specs.Engines.{BenchEngine}
use Rattle.eg_model.specs.Bench.{Run}
use Rattle.eg_model.specs.Rows.{record_rows}
use Rattle.eg_model.specs.Records.{IsRun}
use Rattle.eg_laws.specs.LeastReaction.{CanExceed, GoesOn, ShowsWord, closed_from}
use Rattle.eg_laws.specs.Stretches.{IsAtOnceWhenConfirmed, faultless_setting}
use Rattle.eg_laws.specs.Bursts.{most_bad, bad_in}

-- ---- the rows of a drive span, or of its part up to any tick ----

-- C66: B(n - after) + after
abbrev pub RowsEndBursts : WeightParts → (threshold after start : ℕ) → List Row → Type 0
RowsEndBursts weights threshold after start rows =
    (later window before : List Row) → rows ≡ later ++ (window ++ before) →
    bad_in (map (true_excess threshold) window) ≤ most_bad weights (length window - after) + after

-- C66, where the reaction is at once when the excess is confirmed
abbrev pub RowsEndBurstsAtOnce : Option Fault → WeightParts → (threshold start : ℕ) → List Row → Type 0
RowsEndBurstsAtOnce fault weights threshold start rows =
    (later window before : List Row) → rows ≡ later ++ (window ++ before) →
    IsAtOnceWhenConfirmed fault weights start (map (true_excess threshold) (window ++ before)) →
    bad_in (map (true_excess threshold) window) ≤ most_bad weights (length window - 1) + 1

-- claim 67
abbrev pub RecordsEndBursts : {E : Type 0} → BenchEngine E → Type 0
RecordsEndBursts b =
    (r : Run) → IsRun r → IsListed r.setting.fault →
    EachDriveSpan (RowsEndBursts r.setting.cal.rules.torque r.setting.cal.rules.threshold
    (reaction_of r.setting.cal.times)) (record_rows b r)

-- claim 68
abbrev pub RecordsEndBurstsAtOnce : {E : Type 0} → BenchEngine E → Type 0
RecordsEndBurstsAtOnce b =
    (r : Run) → IsRun r → IsListed r.setting.fault →
    EachDriveSpan (RowsEndBurstsAtOnce r.setting.fault r.setting.cal.rules.torque
    r.setting.cal.rules.threshold) (record_rows b r)

-- ---- so many of them can have it ----

-- C66: a history of one drive span whose loads are words, and in whose last n ticks at least `many` have true
-- excess
pub record HasExcesses (s : Setting) (n many : ℕ) : Type 0 where
  pub listed : IsListed s.fault
  pub h : List Tick
  pub follows : Follows s.fault 0 h
  pub proper : AreProper s h
  pub goes_on : All GoesOn h
  pub words : All ShowsWord h
  pub within : n ≤ length h
  pub excesses : many ≤ bad_in (take n (true_excesses s h))

-- The tick from which path 1 is held closed. It comes right after the tick that confirms the excess, and that
-- comes right after a send tick, behind n ticks of bursts.
unfoldable pub burst_onset : CalibrationParts → (n : ℕ) → ℕ
burst_onset cal n =
    quotient_up (feeds_to_confirm cal.rules.torque + n) cal.times.period * cal.times.period
    + cal.times.send + 2

-- claim 69 for claim 67; a run has at most 20,000 ticks
abbrev pub BurstsLast : Type 0
BurstsLast =
    (cal : CalibrationParts) → IsAccepted cal → CanExceed cal →
    cal.rules.torque.up + cal.rules.torque.down ≤ cal.rules.torque.limit → (n : ℕ) →
    let before = n - reaction_of cal.times in
    reaction_of cal.times ≤ n → burst_onset cal before ≤ 19999 →
    HasExcesses (closed_from (burst_onset cal before) cal) n
    (min n (most_bad cal.rules.torque before + reaction_of cal.times))

-- claim 69 for claim 68
abbrev pub BurstsLastUntilConfirmed : Type 0
BurstsLastUntilConfirmed =
    (cal : CalibrationParts) → IsAccepted cal → CanExceed cal →
    cal.rules.torque.up + cal.rules.torque.down ≤ cal.rules.torque.limit → (n : ℕ) → 1 ≤ n →
    HasExcesses (faultless_setting cal) n (min n (most_bad cal.rules.torque (n - 1) + 1))
