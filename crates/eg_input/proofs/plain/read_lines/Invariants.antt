use Rattle.eg_input.specs.Inner.Plain.{records_below}
use Rattle.eg_input.proofs.Seen.{Seen}
use Rattle.eg_input.proofs.plain.read_lines.Given as goal

-- each line before writes a row, and these are the rows
abbrev pub invariant-loop-count : goal.invariant-loop-count
invariant-loop-count g l = Seen (g.R.FileRow.row_of l.width) (records_below l.bytes) (records_below l.rest) l.rows.items l.count
