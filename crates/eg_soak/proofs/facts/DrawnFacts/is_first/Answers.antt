use Rattle.std.proofs.Common.{rules}
use Rattle.eg_record.specs.Detection.{is_watch, rank}
use Rattle.eg_soak.specs.Facts.{is_first}
use Rattle.eg_soak.proofs.facts.DrawnFacts.is_first.Goals as goal

pub returns : goal.returns
unfolding is_first is_watch rank
returns c = search rules
