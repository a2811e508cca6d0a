-- The texts of `run` (F29), `table` (F30) and `margins` (F31). What `record` writes is `record_text` of
-- `eg_campaign`.
use Rattle.std.specs.Prelude.{ℕ, Bool, true, false, List, ◌++◌, map}
use Rattle.std.specs.List.{concat, zip}
use Rattle.eg_answer.specs.Times.{reaction_of}
use Rattle.eg_values.specs.Calibration.{CalibrationParts}
use Rattle.eg_record.specs.Texts.{summary_line, report_end}
use Rattle.eg_record.specs.declared.run_facts.RunFacts.{RunFacts}
use Rattle.eg_table.specs.Texts.{table_header, table_line}
use Rattle.eg_table.specs.Margins.{margins_header, margins_line}
use Rattle.eg_campaign.specs.Plays.{report_with}
use Rattle.eg_campaign.specs.Groups.{told_by}
use Rattle.eg_plan.specs.declared.run_input.RunInput.{RunInput}
use Rattle.eg_outcome.specs.declared.telling.Telling.{Telling}
use Rattle.eg_outcome.specs.declared.telling.Telling.TheVariants.{Report, Rows}
use Rattle.eg_outcome.specs.declared.telling.Columns.{Columns}
use Rattle.eg_outcome.specs.declared.telling.Columns.TheVariants.{Table, Margins}

-- F29
unfoldable pub report_text : CalibrationParts → List RunInput → List ℕ
report_text cal inputs =
    concat (map (λ input. summary_line (report_with cal input)) inputs)
    ++ report_end (map (report_with cal) inputs)

-- F30, F31, the header
unfoldable pub header_of : Columns → List ℕ
header_of Table = table_header
header_of Margins = margins_header

-- F30, F31: the row of a run, of which this is told; `bound` is R
unfoldable pub line_of : Columns → (bound : ℕ) → RunInput × RunFacts → List ℕ
line_of Table bound run = table_line run.0.plan.name run.0.plan.fault bound run.1
line_of Margins bound run = margins_line run.0.plan.name run.0.plan.fault run.1.margins

-- F30, F31; `told` is what is told of each run
unfoldable pub rows_by : Columns → (bound : ℕ) → List RunInput → List RunFacts → List ℕ
rows_by columns bound inputs told =
    header_of columns ++ concat (map (line_of columns bound) (zip inputs told))

-- whether the columns tell what the debouncers weigh
unfoldable pub weighs : Columns → Bool
weighs Table = false
weighs Margins = true

-- F30, F31
unfoldable pub rows_text : Columns → CalibrationParts → List RunInput → List ℕ
rows_text columns cal inputs =
    rows_by columns (reaction_of cal.times) inputs (map (told_by (weighs columns) cal) inputs)

abbrev pub runs_text : Telling → CalibrationParts → List RunInput → List ℕ
runs_text Report cal inputs = report_text cal inputs
runs_text (Rows columns) cal inputs = rows_text columns cal inputs
