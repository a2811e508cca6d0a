use Rattle.std.proofs.Common.{rules, tests}
use Rattle.eg_toml.proofs.ReadLemmas.{count-view}
use Rattle.eg_plan.proofs.reader.are_few.Goals as goal

pub returns-clause-value : goal.returns-clause-value
returns-clause-value c = rw (count-view c.args.items.now) (search (rules, tests))
