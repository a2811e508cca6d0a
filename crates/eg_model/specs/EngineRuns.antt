-- A run of an engine of some kind, with its record and its report.
use Rattle.std.specs.Prelude.{ℕ, List, reverse}
use Rattle.std.specs.List.{flat_map}
use Rattle.eg_plant.specs.declared.engine_kind.EngineKind.{EngineKind}
use Rattle.eg_record.specs.declared.row.Row.{Row}
use Rattle.eg_record.specs.declared.summary.Summary.{Summary}
use Rattle.eg_model.specs.Engines.{bench_of}
use Rattle.eg_model.specs.Bench.{Run}
use Rattle.eg_model.specs.Rows.{record_rows, report_of}

-- a run, and the kind of its engine
pub record EngineRun : Type 0 where
  pub engine : EngineKind
  pub run : Run

-- the rows of its record, newest first
abbrev pub rows_of_run : EngineRun → List Row
rows_of_run r = record_rows (bench_of r.engine) r.run

-- the same in the order of time, and those of runs that are made one after another
unfoldable pub rows_in_time : EngineRun → List Row
rows_in_time r = reverse (rows_of_run r)

unfoldable pub rows_of_runs : List EngineRun → List Row
rows_of_runs runs = flat_map rows_in_time runs

-- what the report says of it under this name
abbrev pub report_of_run : List ℕ → EngineRun → Summary
report_of_run name r = report_of (bench_of r.engine) name r.run
