-- The record of a run is written as a header and a line for each of its rows, in the order of time.
use Rattle.std.specs.Prelude.{ℕ, List, ◌++◌, map}
use Rattle.std.specs.List.{concat}
use Rattle.eg_values.specs.Calibration.{CalibrationParts}
use Rattle.eg_record.specs.declared.row.Row.{Row}
use Rattle.eg_record.specs.Texts.{record_header, row_line}
use Rattle.eg_model.specs.EngineRuns.{rows_in_time}
use Rattle.eg_campaign.specs.Plays.{run_with}
use Rattle.eg_plan.specs.declared.run_input.RunInput.{RunInput}

-- the header, and the line of each of these rows
unfoldable pub text_of : List Row → List ℕ
text_of rows = record_header ++ concat (map row_line rows)

-- the header, and a line for each row in the order of time
unfoldable pub record_text : CalibrationParts → RunInput → List ℕ
record_text cal input = text_of (rows_in_time (run_with cal input))
