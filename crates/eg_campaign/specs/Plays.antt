-- By a calibration an input is a run of the engine that its plan names, with a record and a report.
use Rattle.std.specs.Prelude.{◌≡◌, Bool, reverse}
use Rattle.eg_values.specs.Calibration.{CalibrationParts}
use Rattle.eg_record.specs.declared.run_facts.RunFacts.{RunFacts}
use Rattle.eg_record.specs.declared.summary.Summary.{Summary}
use Rattle.eg_model.specs.Engines.{BenchEngine}
use Rattle.eg_model.specs.EngineRuns.{EngineRun, report_of_run}
use Rattle.eg_model.specs.Bench.{Run}
use Rattle.eg_model.specs.Rows.{record_rows}
use Rattle.eg_tick.specs.Run.{run_by}
use Rattle.eg_tick.specs.Facts.{IsToldOf}
use Rattle.eg_tick.specs.Weights.{TickCount}
use Rattle.eg_tick.specs.Counting.{count_with}
use Rattle.eg_plan.specs.declared.run_input.RunInput.{RunInput}

-- the run of an input by a calibration
abbrev pub run_with : CalibrationParts → RunInput → EngineRun
run_with cal input = record {
  engine = input.plan.engine;
  run = run_by cal input.image input.plan.fault input.plan.slices input.drive;
}

-- what the report says of it
abbrev pub report_with : CalibrationParts → RunInput → Summary
report_with cal input = report_of_run input.plan.name (run_with cal input)

-- ---- what is told ----

-- A run of this engine was played: this is told of it, and its rows were made and counted.
pub record IsPlayed {S : Type 0} (weighed : Bool) (b : BenchEngine S) (r : Run) (was is : TickCount)
    (all : RunFacts) : Type 0 where
  pub told : IsToldOf weighed b r all
  pub counted : is ≡ count_with was (reverse (record_rows b r))
