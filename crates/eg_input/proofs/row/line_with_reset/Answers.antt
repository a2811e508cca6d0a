use Rattle.std.proofs.Common.{rules}
use Rattle.eg_input.proofs.LineOfNumbers.{reset-line}
use Rattle.eg_input.proofs.row.line_with_reset.Goals as goal

pub returns : goal.returns
returns c = search (rules, reset-line)
