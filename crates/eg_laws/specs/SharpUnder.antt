-- C99: under a fault that leaves alone what level 2 reads and does `torque` is as sharp as without a fault,
-- before the onset and after it. Rows stand newest first.
use Rattle.std.specs.Prelude.{◌≡◌, ℕ, Bool, true, false, not, List, ◌∷◌, ◌++◌, map, Option, IfSome}
use Rattle.eg_num.specs.Windows.{WeightParts, is_confirmed, is_first}
use Rattle.eg_fault.specs.Faults.{effects, IsNoneOrValid}
use Rattle.eg_fault.specs.Running.{may_change_levels}
use Rattle.eg_fault.specs.declared.class.Class.{Class}
use Rattle.eg_fault.specs.declared.class.Class.TheVariants.{Script, Offset, Bus}
use Rattle.eg_fault.specs.declared.class.Fault.{Fault}
use Rattle.eg_fault.specs.declared.paths.TheConstants.{PATH_1}
use Rattle.eg_record.specs.declared.row.Row.{Row}
use Rattle.eg_record.specs.Excess.{full_excess}
use Rattle.eg_record.specs.Spans.{EachDriveSpan}
use Rattle.eg_model.specs.Engines.{BenchEngine}
use Rattle.eg_model.specs.Bench.{Run}
use Rattle.eg_model.specs.Rows.{record_rows}
use Rattle.eg_model.specs.Records.{IsRun}

-- C99: `plate`, `timing`, `wild`, `path1-closed`, `path2-closed` and `path-open`
unfoldable pub leaves_readings : Class → Bool
leaves_readings (Script track values) = false
leaves_readings (Offset track add) = false
leaves_readings (Bus mask) = false
leaves_readings other = not (may_change_levels other)

abbrev pub SparesReadings : Option Fault → Type 0
SparesReadings fault = IfSome fault (λ f. leaves_readings f.class ≡ true)

-- C99, `before` being the rows of the drive span before this row
pub record IsSharpAt (fault : Option Fault) (weights : WeightParts) (kt threshold : ℕ) (row : Row)
    (before : List Row) : Type 0 where
  pub torque : row.found.torque ≡ is_first weights (map (full_excess kt threshold) (row ∷ before))
  pub mirror : row.found.mirror ≡ false
  pub pedal : row.found.pedal ≡ false
  pub plate : row.found.plate ≡ false
  pub load : row.found.load ≡ false
  pub speed : row.found.speed ≡ false
  pub path1 : row.path1
      ≡ (effects fault row.tick).conducts PATH_1
      (is_confirmed weights (map (full_excess kt threshold) before))

abbrev pub IsSharp : Option Fault → WeightParts → (kt threshold start : ℕ) → List Row → Type 0
IsSharp fault weights kt threshold start rows =
    (later before : List Row) (row : Row) → rows ≡ later ++ row ∷ before →
    IsSharpAt fault weights kt threshold row before

-- claims 79 and 80
abbrev pub RecordsCutSharplyUnder : {E : Type 0} → BenchEngine E → Type 0
RecordsCutSharplyUnder b =
    (r : Run) → IsRun r → IsNoneOrValid r.setting.fault → SparesReadings r.setting.fault →
    EachDriveSpan (IsSharp r.setting.fault r.setting.cal.rules.torque r.setting.cal.rules.kt
    r.setting.cal.rules.threshold) (record_rows b r)
