use Rattle.std.proofs.Common.{◌-◌, ◌/◌, ap, ap₂, ◌∙◌}
use Rattle.eg_answer.specs.Times.{rights_between}
use Rattle.eg_answer.proofs.times.rights_between.Goals as goal

pub returns-clause-number : goal.returns-clause-number
unfolding rights_between
returns-clause-number c =
    let period = c.from.ensures ∙ c.period.ensures.period in
    ap₂ (λ n p. n / p) (c.saturating_sub.ensures ∙ ap (λ n. n - 2) c.feeds_to_confirm-runs.ensures.number) period
