-- C44 and C41: when each path conducts, by the rows of a drive span and of a test span. Rows stand newest
-- first.
use Rattle.std.specs.Prelude.{◌≡◌, ℕ, Bool, true, false, ◌&&◌, ◌||◌, nat_lt, List, [], ◌∷◌, ◌++◌, length, Option}
use Rattle.std.specs.List.{list_any}
use Rattle.eg_answer.specs.Times.{test_ticks_of}
use Rattle.eg_answer.specs.declared.modules.TheConstants.{REACT}
use Rattle.eg_fault.specs.Faults.{effects}
use Rattle.eg_fault.specs.declared.class.Fault.{Fault}
use Rattle.eg_fault.specs.declared.paths.TheConstants.{PATH_1, PATH_2}
use Rattle.eg_record.specs.declared.row.Row.{Row}
use Rattle.eg_record.specs.Spans.{EachDriveSpan, EachTestSpan}
use Rattle.eg_model.specs.Moments.{some_trips}
use Rattle.eg_model.specs.Engines.{BenchEngine}
use Rattle.eg_model.specs.Bench.{Run}
use Rattle.eg_model.specs.Rows.{record_rows}
use Rattle.eg_model.specs.Records.{IsRun, is_before_onset}

-- ---- the latches, by the rows of a drive span ----

-- a watch that trips finds something at this row
unfoldable pub trips : Row → Bool
trips row = some_trips row.found.mirror row.found.plate row.found.load row.found.speed row.found.torque

-- C44: react ran at one of these rows, and a trip had come by then
unfoldable pub opened_1 : Option Fault → List Row → Bool
opened_1 fault [] = false
opened_1 fault (row ∷ before) =
    ((effects fault row.tick).ran REACT && list_any trips (row ∷ before)) || opened_1 fault before

-- C44
unfoldable pub opened_2 : Option Fault → List Row → Bool
opened_2 fault rows = list_any (λ row. row.found.answers || (effects fault row.tick).opens) rows

-- ---- the rows of a drive span that begins at tick `start`, or of its part up to any tick ----

-- C44
pub record FollowsLatches (fault : Option Fault) (row : Row) (before : List Row) : Type 0 where
  pub path1 : row.path1 ≡ (effects fault row.tick).conducts PATH_1 (opened_1 fault before)
  pub path2 : row.path2 ≡ (effects fault row.tick).conducts PATH_2 (opened_2 fault before)

abbrev pub RowsFollowLatches : Option Fault → (start : ℕ) → List Row → Type 0
RowsFollowLatches fault start rows =
    (later : List Row) (row : Row) (before : List Row) → rows ≡ later ++ row ∷ before →
    FollowsLatches fault row before

-- ---- and of a test span ----

-- Both paths conduct before the row of number `read_back` in the span, and not at it. `before` are the rows
-- of the span before this one.
pub record IsTested (read_back : ℕ) (row : Row) (before : List Row) : Type 0 where
  pub path1 : row.path1 ≡ nat_lt (length before) read_back
  pub path2 : row.path2 ≡ nat_lt (length before) read_back

-- C41: before the onset of a fault, while the test is running
abbrev pub RowsAreTested : Option Fault → (read_back start : ℕ) → List Row → Type 0
RowsAreTested fault read_back start rows =
    (later : List Row) (row : Row) (before : List Row) → rows ≡ later ++ row ∷ before →
    is_before_onset fault row.tick ≡ true → row.testing ≡ true → IsTested read_back row before

-- ---- of every record ----

abbrev pub RecordsFollowLatches : {E : Type 0} → BenchEngine E → Type 0
RecordsFollowLatches b = (r : Run) → EachDriveSpan (RowsFollowLatches r.setting.fault) (record_rows b r)

abbrev pub RecordsTestPaths : {E : Type 0} → BenchEngine E → Type 0
RecordsTestPaths b =
    (r : Run) → IsRun r →
    EachTestSpan (RowsAreTested r.setting.fault (test_ticks_of r.setting.cal.times)) (record_rows b r)
