use Rattle.std.proofs.Common.{rules, ◌↔◌, IsTrue}
use Rattle.std.specs.List.Sorted.{IsStrictlyIncreasing}
use Rattle.eg_toml.proofs.RisingLemmas.{rising-same}
use Rattle.eg_plan.proofs.contents.is_rising.Goals as goal

pub returns : goal.returns
returns c =
    let rises : IsTrue c.all.result ↔ IsStrictlyIncreasing c.args.numbers.now = search rules in
    rising-same _ _ rises
