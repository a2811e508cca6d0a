use Rattle.std.proofs.Common.{[], ◌∷◌}
use Rattle.eg_input.specs.CheckFile.{IsCheckRow, check_header, check_row_of}
use Rattle.eg_input.proofs.FieldLemmas.{check_row_of-limits}
use Rattle.eg_input.proofs.FileLaws.{read-All}
use Rattle.eg_input.proofs.trace.read_check.Goals as goal

pub returns-clause-limits : goal.returns-clause-limits
returns-clause-limits c = read-All (check_header ∷ []) (λ _. check_row_of) IsCheckRow (λ _. check_row_of-limits) _ _ c.read_rows.ensures
