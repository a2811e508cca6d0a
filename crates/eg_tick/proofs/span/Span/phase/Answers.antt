use Rattle.std.proofs.Common.{rules}
use Rattle.eg_model.specs.History.{drives}
use Rattle.eg_agree.specs.Doings.{phase_at}
use Rattle.eg_tick.specs.Stands.{kind_of}
use Rattle.eg_tick.proofs.span.Span.phase.Goals as goal

pub returns-then-told : goal.returns-then-told
unfolding kind_of drives phase_at
returns-then-told c = search rules

pub returns-else-told : goal.returns-else-told
unfolding kind_of drives phase_at
returns-else-told c = search rules

pub returns-then-sends : goal.returns-then-sends
unfolding kind_of drives phase_at
returns-then-sends c = search rules

pub returns-else-sends : goal.returns-else-sends
unfolding kind_of drives phase_at
returns-else-sends c = search rules
