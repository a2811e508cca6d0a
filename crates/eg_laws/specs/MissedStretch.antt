-- C103: how long an excess may last under lapses.
use Rattle.std.specs.Prelude.{ℕ, ◌+◌, ◌*◌, ◌≤◌, List, length}
use Rattle.eg_values.specs.Calibration.{CalibrationParts, IsAccepted}
use Rattle.eg_values.specs.Excess.{ticks_to_confirm, BoundsMissed, longest_missed}
use Rattle.eg_fault.specs.Faults.{IsNoneOrValid}
use Rattle.eg_record.specs.declared.row.Row.{Row}
use Rattle.eg_record.specs.Spans.{EachDriveSpan}
use Rattle.eg_model.specs.History.{Setting, Tick}
use Rattle.eg_model.specs.Moments.{moments_of}
use Rattle.eg_model.specs.Premises.{AreProper, Follows}
use Rattle.eg_model.specs.Lapses.{IsLapse, StretchesStayBelow}
use Rattle.eg_model.specs.Engines.{BenchEngine}
use Rattle.eg_model.specs.Bench.{Run}
use Rattle.eg_model.specs.Rows.{rows_of, record_rows}
use Rattle.eg_model.specs.Records.{IsRun, ExceedLast, ExcessIsBelow}
use Rattle.eg_laws.specs.Availability.{missed_ticks}

-- C103
abbrev pub MissedStretchesEnd : Type 0
MissedStretchesEnd =
    (cal : CalibrationParts) → IsAccepted cal → BoundsMissed cal →
    StretchesStayBelow cal (longest_missed cal + 1)

-- claim 96
abbrev pub RecordsEndMissedStretches : {E : Type 0} → BenchEngine E → Type 0
RecordsEndMissedStretches b =
    (r : Run) → IsRun r → IsNoneOrValid r.setting.fault → IsLapse r.setting.fault →
    BoundsMissed r.setting.cal →
    EachDriveSpan (ExcessIsBelow r.setting.cal.rules.threshold (longest_missed r.setting.cal + 1))
    (record_rows b r)

-- C103, with any ramp and any N. h is the history up to the end of the stretch, and n the ticks of the
-- stretch.
abbrev pub GreatExcessEnds : Type 0
GreatExcessEnds =
    (s : Setting) → IsAccepted s.cal → IsLapse s.fault → (start : ℕ) (h : List Tick) →
    Follows s.fault start h → AreProper s h → (missed : ℕ) →
    missed_ticks s.fault start (length h) ≤ missed → (n : ℕ) →
    ExceedLast (s.cal.rules.threshold + missed * s.cal.rules.fall) n (rows_of (moments_of s h)) →
    n ≤ ticks_to_confirm s.cal + missed

abbrev pub GreatExcessIsShort : Setting → (missed start : ℕ) → List Row → Type 0
GreatExcessIsShort s missed start rows =
    missed_ticks s.fault start (length rows) ≤ missed →
    ExcessIsBelow (s.cal.rules.threshold + missed * s.cal.rules.fall) (ticks_to_confirm s.cal + missed + 1)
    start rows

-- claim 100
abbrev pub RecordsEndGreatExcess : {E : Type 0} → BenchEngine E → Type 0
RecordsEndGreatExcess b =
    (r : Run) → IsRun r → IsNoneOrValid r.setting.fault → IsLapse r.setting.fault → (missed : ℕ) →
    EachDriveSpan (GreatExcessIsShort r.setting missed) (record_rows b r)
