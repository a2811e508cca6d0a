-- In a record with no fault or a listed one the stages are off from R ticks after a confirmed true excess to
-- the end of the drive span. In each test span they are off. Other laws for the record of a run on the bench
-- say span by span when it cuts at once, sharply, from the onset, and under lapses. Each is a statement about
-- an engine; the laws hold of the engines that keep `KeepsBenchLaws`.
use Rattle.std.specs.Prelude.{◌≡◌, ℕ, ◌+◌, ◌*◌, ◌≤◌, ◌<◌, Bool, true, false, not, nat_lt, nat_le, max, List, ◌∷◌, ◌++◌, All, map, take, length, Option, Some, None, IfSome, MatchOption}
use Rattle.std.specs.List.{list_all}
use Rattle.eg_num.specs.Drive.{IsDrive}
use Rattle.eg_num.specs.Windows.{WeightParts, is_confirmed, first_index}
use Rattle.eg_answer.specs.Times.{reaction_of, lapse_periods, lapse_bound_of}
use Rattle.eg_values.specs.Calibration.{CalibrationParts, IsAccepted}
use Rattle.eg_values.specs.Excess.{BoundsLapses}
use Rattle.eg_fault.specs.Faults.{IsNoneOrValid, IsListed}
use Rattle.eg_fault.specs.declared.class.Fault.{Fault}
use Rattle.eg_record.specs.declared.row.Row.{Row}
use Rattle.eg_record.specs.Rows.{AreRows}
use Rattle.eg_record.specs.Excess.{true_excess, full_excess}
use Rattle.eg_record.specs.Spans.{EachDriveSpan, EachTestSpan}
use Rattle.eg_model.specs.Reaction.{is_at_once, spoils_answers}
use Rattle.eg_model.specs.Lapses.{IsLapse}
use Rattle.eg_model.specs.Spans.{moments, next_after}
use Rattle.eg_model.specs.Engines.{BenchEngine}
use Rattle.eg_model.specs.Bench.{Run, entry_at, moments_to, entries_to}
use Rattle.eg_model.specs.Rows.{row_of, rows_of, record_rows}

-- a run that the laws speak of: its calibration is an accepted one, and its drive rows keep their limits
pub record IsRun (r : Run) : Type 0 where
  pub accepted : IsAccepted r.setting.cal
  pub drive : All IsDrive r.drive

-- the row of tick t, and the rows of the first n ticks
unfoldable pub row_at : {E : Type 0} → BenchEngine E → Run → ℕ → Row
row_at b r t =
    let past = moments_to b r t in row_of t (next_after r.setting (entry_at b r t past) past)

unfoldable pub rows_to : {E : Type 0} → BenchEngine E → Run → ℕ → List Row
rows_to b r n = rows_of (moments_to b r n)

-- the record is a history from tick 0: what came in at its ticks gives its moments
abbrev pub RecordsAreHistories : {E : Type 0} → BenchEngine E → Type 0
RecordsAreHistories b = (r : Run) (n : ℕ) → moments_to b r n ≡ moments r.setting (entries_to b r n)

-- its rows are numbered from 0 on
abbrev pub RecordsAreRows : {E : Type 0} → BenchEngine E → Type 0
RecordsAreRows b = (r : Run) (n : ℕ) → AreRows (rows_to b r n) × (length (rows_to b r n) ≡ n)

-- ---- the rows of a drive span that begins at tick `start`, or of its part up to any tick ----

-- the stages are off from `bound` ticks after the first tick by which the true excess is confirmed in a span
abbrev pub ReactWithin : (bound : ℕ) → WeightParts → (threshold start : ℕ) → List Row → Type 0
ReactWithin bound weights threshold start rows =
    (c : ℕ) → first_index weights (map (true_excess threshold) rows) ≡ Some c →
    All (λ row. start + c + bound ≤ row.tick → row.on ≡ false) rows

-- Wherever the true excess is confirmed by the rows before a tick, and the fault, if any, is one under which
-- the reaction is then at once, the stages are off from that tick on.
abbrev pub RowsReactAtOnce : Option Fault → WeightParts → (threshold start : ℕ) → List Row → Type 0
RowsReactAtOnce fault weights threshold start rows =
    (later before : List Row) → rows ≡ later ++ before →
    is_confirmed weights (map (true_excess threshold) before) ≡ true →
    is_at_once fault (start + length before) ≡ true → All (λ row. row.on ≡ false) later

-- the stages are on at each tick up to the first by which the full-efficiency excess is confirmed in the
-- span, and off at each later one; and where it is never confirmed, they are on at every tick
abbrev pub CutOneTickAfter : WeightParts → (kt threshold start : ℕ) → List Row → Type 0
CutOneTickAfter weights kt threshold start rows =
    MatchOption (first_index weights (map (full_excess kt threshold) rows))
    (All (λ row. row.on ≡ true) rows) (λ c. All (λ row. row.on ≡ nat_le row.tick (start + c)) rows)

-- no fault has begun by a tick
unfoldable pub is_before_onset : Option Fault → ℕ → Bool
is_before_onset None t = true
is_before_onset (Some fault) t = nat_lt t fault.onset

-- where no fault has begun by a tick, the stages are on at that tick exactly if the full-efficiency excess
-- isn't confirmed by the rows before it
abbrev pub CutSharplyBefore : Option Fault → WeightParts → (kt threshold start : ℕ) → List Row → Type 0
CutSharplyBefore fault weights kt threshold start rows =
    (later before : List Row) (row : Row) → rows ≡ later ++ row ∷ before →
    is_before_onset fault row.tick ≡ true →
    row.on ≡ not (is_confirmed weights (map (full_excess kt threshold) before))

-- there is true excess at each of the last n of these rows
pub record ExceedLast (threshold n : ℕ) (rows : List Row) : Type 0 where
  pub within : n ≤ length rows
  pub each : list_all (λ excess. excess) (take n (map (true_excess threshold) rows)) ≡ true

-- Excess that stands is cut: wherever a period ends and there was true excess at each tick of the last
-- `lapse_periods` periods, the stages are off from the next tick on.
-- (`CutsStandingExcess` of `Lapses` says by which calibrations no excess stands so long.)
abbrev pub CutStandingExcess : CalibrationParts → (start : ℕ) → List Row → Type 0
CutStandingExcess cal start rows =
    (later before : List Row) (periods : ℕ) → rows ≡ later ++ before →
    length before ≡ periods * cal.times.period →
    ExceedLast cal.rules.threshold (lapse_periods cal.rules.torque cal.times * cal.times.period) before →
    All (λ row. row.on ≡ false) later

-- each stretch of rows in a row with true excess has fewer than `bound` rows
abbrev pub ExcessIsBelow : (threshold bound start : ℕ) → List Row → Type 0
ExcessIsBelow threshold bound start rows =
    (later before : List Row) (n : ℕ) → rows ≡ later ++ before → ExceedLast threshold n before → n < bound

-- each is shorter than the bound for lapses
abbrev pub ExcessIsShort : CalibrationParts → (start : ℕ) → List Row → Type 0
ExcessIsShort cal = ExcessIsBelow cal.rules.threshold (lapse_bound_of cal.rules.torque cal.times)

-- where a module of level 2 is skipped or disturbed, or both levels halt, the stages are off from `bound`
-- ticks after the onset, or after the span's begin if that is later, whatever the torque
abbrev pub CutFromOnset : Option Fault → (bound start : ℕ) → List Row → Type 0
CutFromOnset fault bound start rows = IfSome fault (λ f. spoils_answers f.class ≡ true →
    All (λ row. max f.onset start + bound ≤ row.tick → row.on ≡ false) rows)

-- ---- the rows of a test span ----

-- the stages are off at each tick
abbrev pub AreOff : (start : ℕ) → List Row → Type 0
AreOff start rows = All (λ row. row.on ≡ false) rows

-- ---- of every record ----

-- with no fault or a listed one: in each drive span the stages are off within R of a confirmed true excess
abbrev pub RecordsReact : {E : Type 0} → BenchEngine E → Type 0
RecordsReact b =
    (r : Run) → IsRun r → IsListed r.setting.fault →
    EachDriveSpan (ReactWithin (reaction_of r.setting.cal.times) r.setting.cal.rules.torque
    r.setting.cal.rules.threshold) (record_rows b r)

-- under those of these faults that let level 2 react at once they are off at the next tick
abbrev pub RecordsReactAtOnce : {E : Type 0} → BenchEngine E → Type 0
RecordsReactAtOnce b =
    (r : Run) → IsRun r → IsListed r.setting.fault →
    EachDriveSpan (RowsReactAtOnce r.setting.fault r.setting.cal.rules.torque r.setting.cal.rules.threshold)
    (record_rows b r)

-- without a fault: in each drive span they go off one tick after the full-efficiency excess is confirmed
abbrev pub RecordsCutSharply : {E : Type 0} → BenchEngine E → Type 0
RecordsCutSharply b =
    (r : Run) → IsRun r → r.setting.fault ≡ None →
    EachDriveSpan (CutOneTickAfter r.setting.cal.rules.torque r.setting.cal.rules.kt
    r.setting.cal.rules.threshold) (record_rows b r)

-- under any fault, before its onset: the same
abbrev pub RecordsCutSharplyBefore : {E : Type 0} → BenchEngine E → Type 0
RecordsCutSharplyBefore b =
    (r : Run) → IsRun r →
    EachDriveSpan (CutSharplyBefore r.setting.fault r.setting.cal.rules.torque r.setting.cal.rules.kt
    r.setting.cal.rules.threshold) (record_rows b r)

-- under a lapse, where the calibration has a bound: excess that stands is cut in each drive span
abbrev pub RecordsCutStandingExcess : {E : Type 0} → BenchEngine E → Type 0
RecordsCutStandingExcess b =
    (r : Run) → IsRun r → IsNoneOrValid r.setting.fault →
    BoundsLapses r.setting.cal → IsLapse r.setting.fault →
    EachDriveSpan (CutStandingExcess r.setting.cal) (record_rows b r)

-- and each stretch of excess in it is shorter than the bound for lapses
abbrev pub RecordsHaveShortExcess : {E : Type 0} → BenchEngine E → Type 0
RecordsHaveShortExcess b =
    (r : Run) → IsRun r → IsNoneOrValid r.setting.fault →
    BoundsLapses r.setting.cal → IsLapse r.setting.fault →
    EachDriveSpan (ExcessIsShort r.setting.cal) (record_rows b r)

-- with no fault or a valid one: what spoils the answers cuts within R of its onset, in each drive span
abbrev pub RecordsCutFromOnset : {E : Type 0} → BenchEngine E → Type 0
RecordsCutFromOnset b =
    (r : Run) → IsRun r → IsNoneOrValid r.setting.fault →
    EachDriveSpan (CutFromOnset r.setting.fault (reaction_of r.setting.cal.times)) (record_rows b r)

-- in each test span the stages are off
abbrev pub RecordsTestUnpowered : {E : Type 0} → BenchEngine E → Type 0
RecordsTestUnpowered b = (r : Run) → EachTestSpan AreOff (record_rows b r)

-- without a fault, and before the onset of one, no test fails
abbrev pub NeverFails : Option Fault → Row → Type 0
NeverFails fault row = is_before_onset fault row.tick ≡ true → row.found.start ≡ false

abbrev pub RecordsPassTests : {E : Type 0} → BenchEngine E → Type 0
RecordsPassTests b = (r : Run) → IsRun r → All (NeverFails r.setting.fault) (record_rows b r)
