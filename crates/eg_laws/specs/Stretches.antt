-- C65: how long a true excess lasts under at most one listed fault, and that no smaller numbers serve. In a
-- stretch the newest tick stands first.
use Rattle.std.specs.Prelude.{◌≡◌, ℕ, ◌+◌, ◌-◌, ◌≤◌, Bool, true, List, [], ◌++◌, All, map, length, replicate, Option, None}
use Rattle.std.specs.Option.{IfSome}
use Rattle.eg_num.specs.Arithmetic.{estimate}
use Rattle.eg_num.specs.Drive.{DriveRow}
use Rattle.eg_num.specs.Windows.{WeightParts, first_index}
use Rattle.eg_answer.specs.Times.{reaction_of}
use Rattle.eg_values.specs.Calibration.{CalibrationParts, IsAccepted}
use Rattle.eg_values.specs.Excess.{ticks_to_confirm, longest_stretch}
use Rattle.eg_fault.specs.Faults.{effects_of, IsListed}
use Rattle.eg_fault.specs.declared.class.Class.TheVariants.{Path1Closed}
use Rattle.eg_fault.specs.declared.class.Fault.{Fault}
use Rattle.eg_record.specs.declared.row.Row.{Row}
use Rattle.eg_record.specs.Excess.{true_excess}
use Rattle.eg_record.specs.Spans.{EachDriveSpan}
use Rattle.eg_model.specs.History.{Setting, Tick}
use Rattle.eg_model.specs.Premises.{AreProper, Follows, true_excesses}
use Rattle.eg_model.specs.Reaction.{is_at_once}
use Rattle.eg_model.specs.Lapses.{Exceeds}
use Rattle.eg_model.specs.Engines.{BenchEngine}
use Rattle.eg_model.specs.Bench.{Run}
use Rattle.eg_model.specs.Rows.{record_rows}
use Rattle.eg_model.specs.Records.{IsRun}
use Rattle.eg_laws.specs.LeastReaction.{CanExceed, giving, until_confirmed, closed_setting}
use Rattle.eg_laws.specs.LeastLapse.{Lasts}

-- There is true excess at each tick of `stretch`, which comes after the ticks `before`. The history begins at
-- tick `start` of a run.
pub record IsStretch (s : Setting) (start : ℕ) (stretch before : List Tick) : Type 0 where
  pub follows : Follows s.fault start (stretch ++ before)
  pub proper : AreProper s (stretch ++ before)
  pub exceeds : Exceeds s (length stretch) (stretch ++ before)

abbrev pub StretchesEndBy : CalibrationParts → (longest : ℕ) → Type 0
StretchesEndBy cal longest =
    (s : Setting) → s.cal ≡ cal → IsListed s.fault → (start : ℕ) (stretch before : List Tick) →
    IsStretch s start stretch before → length stretch ≤ longest

-- C65: from the tick after the confirmed excess on. `excesses` has a bit for each tick of a drive span that
-- begins at tick `start`.
abbrev pub IsAtOnceWhenConfirmed : Option Fault → WeightParts → (start : ℕ) → (excesses : List Bool) → Type 0
IsAtOnceWhenConfirmed fault weights start excesses =
    IfSome (first_index weights excesses) (λ c. is_at_once fault (start + c + 1) ≡ true)

abbrev pub StretchesEndAtOnceBy : CalibrationParts → (longest : ℕ) → Type 0
StretchesEndAtOnceBy cal longest =
    (s : Setting) → s.cal ≡ cal → IsListed s.fault → (start : ℕ) (stretch before : List Tick) →
    IsAtOnceWhenConfirmed s.fault cal.rules.torque start (true_excesses s (stretch ++ before)) →
    IsStretch s start stretch before → length stretch ≤ longest

-- C65. Without a fault the reaction is always at once.
abbrev pub StretchesEnd : Type 0
StretchesEnd = (cal : CalibrationParts) → IsAccepted cal → StretchesEndBy cal (longest_stretch cal)

abbrev pub StretchesEndAtOnce : Type 0
StretchesEndAtOnce =
    (cal : CalibrationParts) → IsAccepted cal → StretchesEndAtOnceBy cal (ticks_to_confirm cal)

-- ---- the histories that show that no smaller numbers serve ----

-- path 1 is stuck closed, and the excess goes on
abbrev pub exceeding_after : CalibrationParts → DriveRow → (load : ℕ) → Tick
exceeding_after cal drive load =
    record { effects = effects_of Path1Closed 0; entry = giving drive load (estimate cal.rules.kt load) }

-- C65: the excess is confirmed, path 1 is stuck closed from the next tick on, and the excess lasts D - 1 + R
-- ticks
abbrev pub ExcessLasts : Type 0
ExcessLasts =
    (cal : CalibrationParts) → IsAccepted cal → (can : CanExceed cal) →
    IsListed (closed_setting cal).fault
    × Lasts (closed_setting cal)
    (replicate (reaction_of cal.times - 1) (exceeding_after cal can.drive can.load)
    ++ until_confirmed cal can.drive can.load)
    (longest_stretch cal)

-- without a fault the excess lasts the D ticks that confirm it
abbrev pub faultless_setting : CalibrationParts → Setting
faultless_setting cal = record { cal = cal; image = []; fault = None }

abbrev pub ExcessLastsUntilConfirmed : Type 0
ExcessLastsUntilConfirmed =
    (cal : CalibrationParts) → IsAccepted cal → (can : CanExceed cal) →
    Lasts (faultless_setting cal) (until_confirmed cal can.drive can.load) (ticks_to_confirm cal)

-- claim 43
abbrev pub StretchIsLeast : Type 0
StretchIsLeast =
    (cal : CalibrationParts) → IsAccepted cal → CanExceed cal → (longest : ℕ) →
    StretchesEndBy cal longest → longest_stretch cal ≤ longest

abbrev pub StretchAtOnceIsLeast : Type 0
StretchAtOnceIsLeast =
    (cal : CalibrationParts) → IsAccepted cal → CanExceed cal → (longest : ℕ) →
    StretchesEndAtOnceBy cal longest → ticks_to_confirm cal ≤ longest

-- ---- the rows of a drive span that begins at tick `start`, or of its part up to any tick ----

abbrev pub AllExcess : (threshold : ℕ) → List Row → Type 0
AllExcess threshold stretch = All (λ row. true_excess threshold row ≡ true) stretch

-- no stretch of consecutive rows with true excess has more than `longest`
abbrev pub LastsAtMost : (threshold longest : ℕ) → List Row → Type 0
LastsAtMost threshold longest rows =
    (later stretch before : List Row) → rows ≡ later ++ (stretch ++ before) → AllExcess threshold stretch →
    length stretch ≤ longest

abbrev pub RowsEndStretches : (threshold longest start : ℕ) → List Row → Type 0
RowsEndStretches threshold longest start rows = LastsAtMost threshold longest rows

abbrev pub RowsEndStretchesAtOnce :
    Option Fault → WeightParts → (threshold longest start : ℕ) → List Row → Type 0
RowsEndStretchesAtOnce fault weights threshold longest start rows =
    (later stretch before : List Row) → rows ≡ later ++ (stretch ++ before) →
    IsAtOnceWhenConfirmed fault weights start (map (true_excess threshold) (stretch ++ before)) →
    AllExcess threshold stretch → length stretch ≤ longest

-- ---- of every record ----

-- claim 41
abbrev pub RecordsEndStretches : {E : Type 0} → BenchEngine E → Type 0
RecordsEndStretches b =
    (r : Run) → IsRun r → IsListed r.setting.fault →
    EachDriveSpan (RowsEndStretches r.setting.cal.rules.threshold (longest_stretch r.setting.cal))
    (record_rows b r)

-- claim 42
abbrev pub RecordsEndStretchesAtOnce : {E : Type 0} → BenchEngine E → Type 0
RecordsEndStretchesAtOnce b =
    (r : Run) → IsRun r → IsListed r.setting.fault →
    EachDriveSpan (RowsEndStretchesAtOnce r.setting.fault r.setting.cal.rules.torque
    r.setting.cal.rules.threshold (ticks_to_confirm r.setting.cal)) (record_rows b r)
