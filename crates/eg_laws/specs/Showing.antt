-- C55: the rows of a record show the run: numbers, drive rows, permitted torque, the engine's steps, and what
-- the fault does to the paths. Rows stand newest first.
use Rattle.std.specs.Prelude.{◌≡◌, ℕ, true, false, List, [], ◌∷◌, All, map, reverse, if◌then◌else◌}
use Rattle.eg_num.specs.Drive.{DriveRow}
use Rattle.eg_torque.specs.Ramp.{ramped}
use Rattle.eg_plant.specs.Engine.{Shown}
use Rattle.eg_values.specs.Calibration.{CalibrationParts}
use Rattle.eg_fault.specs.Faults.{effects, IsNoneOrValid}
use Rattle.eg_fault.specs.declared.paths.TheConstants.{PATH_1, PATH_2}
use Rattle.eg_record.specs.declared.row.Row.{Row}
use Rattle.eg_record.specs.Rows.{AreRows}
use Rattle.eg_model.specs.History.{Setting}
use Rattle.eg_model.specs.Moments.{demand_at}
use Rattle.eg_model.specs.Engines.{BenchEngine}
use Rattle.eg_model.specs.Bench.{Run}
use Rattle.eg_model.specs.Rows.{record_rows}
use Rattle.eg_model.specs.Records.{IsRun}

-- level 1's outputs as the row before left them; 0 and 0 at the first row of a span
unfoldable pub commands_at : Row → List Row → ℕ × ℕ
commands_at row [] = (0, 0)
commands_at row (last ∷ before) = if row.fresh then (0, 0) else (last.throttle, last.ignition)

-- The engine after these rows, from its rest on. It steps by these outputs, by whether the stages are on, and
-- with the plate where the fault holds it.
unfoldable pub engine_by : {E : Type 0} → BenchEngine E → Setting → List Row → E
engine_by b s [] = b.rest s.cal.plant
engine_by b s (row ∷ before) =
    let commands = commands_at row before in
    b.step s.cal.plant (engine_by b s before) commands.0 commands.1 row.on
    (effects s.fault row.tick).held_plate

-- 0 at the first row of a span
unfoldable pub limit_before : Row → List Row → ℕ
limit_before row [] = 0
limit_before row (last ∷ before) = if row.fresh then 0 else last.limit

-- C95
unfoldable pub ArePermitted : CalibrationParts → List Row → Type 0
ArePermitted cal [] = Unit {0}
ArePermitted cal (row ∷ before) =
    (row.limit ≡ ramped cal.rules.fall (limit_before row before) (demand_at cal row.drive))
    × ArePermitted cal before

pub record HasShown (row : Row) (shown : Shown) : Type 0 where
  pub plate : row.plate ≡ shown.position
  pub charge : row.charge ≡ shown.load_1
  pub torque : row.torque ≡ shown.torque

abbrev pub ShowEngine : {E : Type 0} → BenchEngine E → Setting → List Row → Type 0
ShowEngine b s [] = Unit {0}
ShowEngine b s (row ∷ before) = HasShown row (b.shows (engine_by b s (row ∷ before))) × ShowEngine b s before

-- C55. A path that the fault lets conduct with its latch open conducts; a path that the fault doesn't let
-- conduct with its latch closed doesn't.
pub record ShowsRun {E : Type 0} (b : BenchEngine E) (s : Setting) (drive : List DriveRow) (rows : List Row)
    : Type 0 where
  pub numbered : AreRows rows
  pub driven : map (λ row. row.drive) rows ≡ reverse drive
  pub permitted : ArePermitted s.cal rows
  pub engine : ShowEngine b s rows
  pub no_torque : All (λ row. row.on ≡ false → row.torque ≡ 0) rows
  pub closed1 : All (λ row. (effects s.fault row.tick).conducts PATH_1 true ≡ true → row.path1 ≡ true) rows
  pub closed2 : All (λ row. (effects s.fault row.tick).conducts PATH_2 true ≡ true → row.path2 ≡ true) rows
  pub open1 : All (λ row. (effects s.fault row.tick).conducts PATH_1 false ≡ false → row.path1 ≡ false) rows
  pub open2 : All (λ row. (effects s.fault row.tick).conducts PATH_2 false ≡ false → row.path2 ≡ false) rows

-- of the headline (claim 1)
abbrev pub RecordsShowRuns : {E : Type 0} → BenchEngine E → Type 0
RecordsShowRuns b =
    (r : Run) → IsRun r → IsNoneOrValid r.setting.fault → ShowsRun b r.setting r.drive (record_rows b r)
