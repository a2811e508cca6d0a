use Rattle.std.proofs.Common.{rules}
use Rattle.eg_input.specs.Inner.Plain.{BeginsWithHeader}
use Rattle.eg_input.proofs.LineOfNumbers.{below-header}
use Rattle.eg_input.proofs.plain.read_plain.Goals as goal

pub returns : goal.returns
returns g c =
    let b : BeginsWithHeader g.R.FileRow.headers c.args.bytes.now c.in_ok-width.width c.in_ok-width.below.now = search rules in
    search (rules, below-header)
