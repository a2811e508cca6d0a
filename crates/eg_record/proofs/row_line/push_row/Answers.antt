use Rattle.std.proofs.Common.{◌∙◌, ◌++◌, ap, List, ℕ, arith}
use Rattle.eg_record.proofs.ColumnsLemmas.{rest-whole}
use Rattle.eg_record.proofs.AsciiLemmas.{line_is_text}
use Rattle.eg_record.proofs.row_line.push_row.Goals as goal

pub returns-clause-line : goal.returns-clause-line
returns-clause-line c =
    c.in_ok-extend_from_slice.ensures.items
    ∙ ap (λ (t : List ℕ). c.args.text.now.items ++ t) (rest-whole 276 c.put_row_line-start.result c.put_row_line-start.new.line (omega arith) ∙ c.put_row_line-start.ensures.put)

pub returns-clause-is_text : goal.returns-clause-is_text
returns-clause-is_text c = line_is_text c.args.row.now c.put_row_line-start.ensures.ascii

pub returns-in_err-extend_from_slice-clause-is_text : goal.returns-in_err-extend_from_slice-clause-is_text
returns-in_err-extend_from_slice-clause-is_text c = line_is_text c.args.row.now c.put_row_line-start.ensures.ascii
