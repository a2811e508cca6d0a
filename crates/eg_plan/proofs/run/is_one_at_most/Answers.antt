use Rattle.std.proofs.Common.{rules, tests}
use Rattle.eg_toml.proofs.ReadLemmas.{count-view}
use Rattle.eg_plan.proofs.run.is_one_at_most.Goals as goal

pub returns : goal.returns
returns c = rw (count-view c.args.items.now) (search (rules, tests))
