use Rattle.std.proofs.Common.{rules}
use Rattle.eg_input.proofs.LineOfNumbers.{brake-line}
use Rattle.eg_input.proofs.row.line_with_brake.Goals as goal

pub returns : goal.returns
returns c = search (rules, brake-line)
