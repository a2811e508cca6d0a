-- A run on the bench is made of a calibration, an image, a fault or none, a slice plan and a drive, and a
-- controller stands for some ticks of it. Its record is said here too. Lists of rows stand newest first.
use Rattle.std.specs.Prelude.{◌≡◌, ℕ, List, reverse, length, Option}
use Rattle.eg_num.specs.Drive.{DriveRow}
use Rattle.eg_fault.specs.declared.class.Fault.{Fault}
use Rattle.eg_values.specs.Calibration.{CalibrationParts}
use Rattle.eg_word.specs.declared.registers.Trap.{Trap}
use Rattle.eg_record.specs.declared.row.Row.{Row}
use Rattle.eg_model.specs.Premises.{IsProperRun}
use Rattle.eg_model.specs.Engines.{BenchEngine, gasoline}
use Rattle.eg_model.specs.Bench.{Run, engine_after, moments_to, entries_to}
use Rattle.eg_model.specs.Rows.{record_rows, record_trap}
use Rattle.eg_tick.specs.Benched.{ComeTo}
use Rattle.eg_tick.specs.Kept.{ControllerParts}
use Rattle.eg_tick.specs.Stands.{Stands}

-- the run of a calibration, an image and a fault, if any, by a slice plan and a drive
abbrev pub run_by : CalibrationParts → List ℕ → Option Fault → List (List ℕ) → List DriveRow → Run
run_by cal image fault plan drive = record {
  setting = record { cal = cal; image = image; fault = fault };
  plan = plan;
  drive = drive;
}

-- After t ticks of the run r, of the engine b of the model, the controller c stands for what came in at them,
-- and its engine has come to the state that b has come to.
pub record IsAt {S E : Type 0} (b : BenchEngine S) (come_to : ComeTo S E) (r : Run) (t : ℕ)
    (c : ControllerParts E) : Type 0 where
  pub stands : Stands r.setting c.kept (entries_to b r t)
  pub engine : c.engine ≡ come_to r.setting.cal.plant (engine_after b r.setting (moments_to b r t))

-- The record of a run of the gasoline engine: its rows in the order of time, and its trap. What came in at
-- each tick was proper.
pub record IsRecordOf (r : Run) (rows : List Row) (trap : Option (Trap × ℕ)) : Type 0 where
  pub rows_are : rows ≡ reverse (record_rows gasoline r)
  pub trap_is : trap ≡ record_trap gasoline r
  pub proper : IsProperRun r.setting (entries_to gasoline r (length r.drive))
