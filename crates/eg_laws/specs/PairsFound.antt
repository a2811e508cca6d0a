-- C99: when the watches of the four pairs find, under a fault that leaves level 2's modules alone. Rows stand
-- newest first.
use Rattle.std.specs.Prelude.{◌≡◌, ◌⊎◌, ℕ, ◌≤◌, Bool, true, false, not, ◌&&◌, List, [], ◌∷◌, ◌++◌, All, map, length, slice_index, Option, IfSome}
use Rattle.std.specs.List.{list_any}
use Rattle.eg_num.specs.Windows.{is_first}
use Rattle.eg_num.specs.declared.watches.Watches.{Watches}
use Rattle.eg_sensor.specs.Readings.{falling_pair, rising_pair, disagrees}
use Rattle.eg_sensor.specs.declared.readings.Readings.{Readings}
use Rattle.eg_answer.specs.Times.{feeds_to_confirm}
use Rattle.eg_fault.specs.Faults.{effects}
use Rattle.eg_fault.specs.Running.{may_change_levels}
use Rattle.eg_fault.specs.declared.class.Fault.{Fault}
use Rattle.eg_record.specs.declared.row.Row.{Row}
use Rattle.eg_record.specs.Spans.{EachDriveSpan}
use Rattle.eg_model.specs.History.{Setting, Entry}
use Rattle.eg_model.specs.Moments.{readings_at}
use Rattle.eg_model.specs.Engines.{BenchEngine}
use Rattle.eg_model.specs.Bench.{Run}
use Rattle.eg_model.specs.Rows.{record_rows}
use Rattle.eg_model.specs.Records.{IsRun}
use Rattle.eg_laws.specs.Availability.{has_tripped}

-- neither `skip`, `disturb`, `flip`, `halt` nor `lapse`
abbrev pub SparesModules : Option Fault → Type 0
SparesModules fault = IfSome fault (λ f. may_change_levels f.class ≡ false)

-- ---- the four pairs ----

pub data Pair : Type 0 where
  Pedal : Pair
  Plate : Pair
  Load : Pair
  Speed : Pair

unfoldable pub finds_pair : Pair → Watches → Bool
finds_pair Pedal found = found.pedal
finds_pair Plate found = found.plate
finds_pair Load found = found.load
finds_pair Speed found = found.speed

-- C13
unfoldable pub pair_disagrees : Pair → (tolerances : List ℕ) → Readings → Bool
pair_disagrees Pedal tolerances r = disagrees (falling_pair r.pedal) (slice_index tolerances 0)
pair_disagrees Plate tolerances r = disagrees (falling_pair r.plate) (slice_index tolerances 1)
pair_disagrees Load tolerances r = disagrees (rising_pair r.load) (slice_index tolerances 2)
pair_disagrees Speed tolerances r = disagrees (rising_pair r.speed) (slice_index tolerances 3)

-- ---- by a row ----

-- What came in at a row, as far as its readings need it. A row has one load, since an engine of the bench
-- shows it to both tracks.
abbrev pub entry_of : Row → Entry
entry_of row = record {
  drive = row.drive;
  slices = [];
  shown = record { position = row.plate; load_1 = row.charge; load_2 = row.charge; torque = row.torque };
}

-- what the fault leaves of the true readings, gated if the brake is taken as pressed
unfoldable pub read_at : Setting → Row → Readings
read_at s row = readings_at s.cal (effects s.fault row.tick) (entry_of row)

unfoldable pub disagrees_at : Pair → Setting → Row → Bool
disagrees_at pair s row = pair_disagrees pair s.cal.rules.tolerances (read_at s row)

-- ---- the rows of a drive span that begins at tick `start`, or of its part up to any tick ----

-- C99
abbrev pub FindsPairs : Setting → (start : ℕ) → List Row → Type 0
FindsPairs s start rows =
    (pair : Pair) (later before : List Row) (row : Row) → rows ≡ later ++ row ∷ before →
    finds_pair pair row.found
    ≡ (not (has_tripped before) && is_first s.cal.rules.pair (map (disagrees_at pair s) (row ∷ before)))

unfoldable pub has_found : Pair → List Row → Bool
has_found pair rows = list_any (λ row. finds_pair pair row.found) rows

-- C99: a pair that disagrees at as many rows in a row as confirm
abbrev pub FindsDisagreement : Setting → (start : ℕ) → List Row → Type 0
FindsDisagreement s start rows =
    (pair : Pair) (later stretch before : List Row) → rows ≡ later ++ (stretch ++ before) →
    All (λ row. disagrees_at pair s row ≡ true) stretch →
    feeds_to_confirm s.cal.rules.pair ≤ length stretch →
    (has_found pair (stretch ++ before) ≡ true) ⊎ (has_tripped (stretch ++ before) ≡ true)

-- ---- of every record ----

abbrev pub RecordsFindPairs : {E : Type 0} → BenchEngine E → Type 0
RecordsFindPairs b =
    (r : Run) → SparesModules r.setting.fault → EachDriveSpan (FindsPairs r.setting) (record_rows b r)

abbrev pub DisagreeingRowsAreFound : {E : Type 0} → BenchEngine E → Type 0
DisagreeingRowsAreFound b =
    (r : Run) → IsRun r → SparesModules r.setting.fault →
    EachDriveSpan (FindsDisagreement r.setting) (record_rows b r)
