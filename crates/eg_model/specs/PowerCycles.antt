-- A test span begins at each reset; else a drive span begins at the first row, and later exactly if a test
-- was passed at the row before. No other span begins. So the spans of a record follow from the resets of its
-- drive and from its start-up tests. Rows stand newest first.
use Rattle.std.specs.Prelude.{◌≡◌, ℕ, ◌+◌, ◌==◌, nat_le, Bool, true, false, not, ◌&&◌, ◌||◌, List, [], ◌∷◌, ◌++◌, length, if◌then◌else◌}
use Rattle.eg_answer.specs.Times.{test_ticks_of}
use Rattle.eg_record.specs.declared.row.Row.{Row}
use Rattle.eg_record.specs.Spans.{this_span}
use Rattle.eg_model.specs.Engines.{BenchEngine}
use Rattle.eg_model.specs.Bench.{Run}
use Rattle.eg_model.specs.Rows.{record_rows}

-- a test span begins at this row
pub record BeginsTest (row : Row) : Type 0 where
  pub fresh : row.fresh ≡ true
  pub tests : row.testing ≡ true

-- a drive span begins at this row
pub record BeginsDrive (row : Row) : Type 0 where
  pub fresh : row.fresh ≡ true
  pub drives : row.testing ≡ false

-- whether the last of these rows stands in a test span: a test is running at the row that begins its span
unfoldable pub stands_in_test : List Row → Bool
stands_in_test [] = false
stands_in_test (row ∷ before) = if row.fresh then row.testing else stands_in_test before

-- A start-up test was passed at this row, `before` being the rows before it: the test was running, the row is
-- the one at which it reads the paths back, which has the number `read_back` in its span, and neither path
-- conducted.
pub record IsPassed (read_back : ℕ) (row : Row) (before : List Row) : Type 0 where
  pub tests : row.testing ≡ true
  pub reads : length (this_span (row ∷ before)) ≡ read_back + 1
  pub path1 : row.path1 ≡ false
  pub path2 : row.path2 ≡ false

-- no watch but `mirror` and `start` is found at this row
pub record IsUnfed (row : Row) : Type 0 where
  pub pedal : row.found.pedal ≡ false
  pub plate : row.found.plate ≡ false
  pub load : row.found.load ≡ false
  pub speed : row.found.speed ≡ false
  pub torque : row.found.torque ≡ false
  pub answers : row.found.answers ≡ false

-- Which span begins at a row, and what its span makes of it, `older` being the rows before it. A test span
-- begins at each row that resets the unit. At other rows: a drive span begins at the first row of a run, and
-- at a later one exactly if a test was passed at the row before; no other span begins. In a test span a
-- test is running up to the row that reads the paths back, in a drive span at no row. The stages are on
-- exactly if the row stands in a drive span and both paths conduct. A test is found to have failed exactly
-- if it reads the paths back and one of them conducts. And in a test span no watch is found beside that
-- one but `mirror`.
pub record BeginsInTurn (read_back : ℕ) (row : Row) (older : List Row) : Type 0 where
  pub resets : row.drive.reset ≡ true → BeginsTest row
  pub first : row.drive.reset ≡ false → older ≡ [] → BeginsDrive row
  pub later : (last : Row) (before : List Row) → row.drive.reset ≡ false → older ≡ last ∷ before →
      row.fresh ≡ true → BeginsDrive row × IsPassed read_back last before
  pub passed : (last : Row) (before : List Row) → older ≡ last ∷ before → IsPassed read_back last before →
      row.fresh ≡ true
  pub runs : row.testing ≡
      (stands_in_test (row ∷ older) && nat_le (length (this_span (row ∷ older))) (read_back + 1))
  pub powered : row.on ≡ (not (stands_in_test (row ∷ older)) && (row.path1 && row.path2))
  pub fails : row.found.start ≡
      ((row.testing && (length (this_span (row ∷ older)) == read_back + 1)) && (row.path1 || row.path2))
  pub unfed : stands_in_test (row ∷ older) ≡ true → IsUnfed row

-- this holds of each row of a record
abbrev pub SpansBeginInTurn : (read_back : ℕ) → List Row → Type 0
SpansBeginInTurn read_back rows =
    (newer : List Row) (row : Row) (older : List Row) → rows ≡ newer ++ (row ∷ older) →
    BeginsInTurn read_back row older

-- The law of power cycles for records of runs on the bench.
abbrev pub RecordsBeginInTurn : {E : Type 0} → BenchEngine E → Type 0
RecordsBeginInTurn b = (r : Run) → SpansBeginInTurn (test_ticks_of r.setting.cal.times) (record_rows b r)
