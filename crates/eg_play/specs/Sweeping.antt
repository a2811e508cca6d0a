-- The runs of a sweep (C91), and the text of their table (F38).
use Rattle.std.specs.Prelude.{ℕ, List, map, length}
use Rattle.eg_fault.specs.declared.class.Fault.{Fault}
use Rattle.eg_values.specs.Calibration.{CalibrationParts}
use Rattle.eg_plan.specs.declared.run_input.RunInput.{RunInput}
use Rattle.eg_campaign.specs.Groups.{inputs_under, facts_by}
use Rattle.eg_outcome.specs.Runs.{without_resets}
use Rattle.eg_table.specs.declared.sweep_row.SweepRow.{SweepRow}
use Rattle.eg_table.specs.Grid.{swept_faults}
use Rattle.eg_table.specs.Sweep.{table_of}
use Rattle.eg_table.specs.SweepTexts.{sweep_text_of}

-- C91, without the resets of the trace
unfoldable pub faults_over : (step : ℕ) → RunInput → List Fault
faults_over step input = swept_faults (length input.drive) step

unfoldable pub runs_over : (step : ℕ) → RunInput → List RunInput
runs_over step input = inputs_under (without_resets input) (faults_over step input)

unfoldable pub table_over : CalibrationParts → (step : ℕ) → RunInput → List SweepRow
table_over cal step input = table_of (faults_over step input) (map (facts_by cal) (runs_over step input))

-- F38
unfoldable pub swept_text : CalibrationParts → (step : ℕ) → RunInput → List ℕ
swept_text cal step input = sweep_text_of (table_over cal step input)
