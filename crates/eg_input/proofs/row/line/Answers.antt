use Rattle.std.proofs.Common.{rules}
use Rattle.eg_input.proofs.LineOfNumbers.{trace-line}
use Rattle.eg_input.proofs.row.line.Goals as goal

pub returns : goal.returns
returns c = search (rules, trace-line)
