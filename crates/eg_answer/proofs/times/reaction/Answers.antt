use Rattle.std.proofs.Common.{◌≡◌, ◌+◌, ◌-◌, ◌*◌, ap, ap₂, ◌∙◌}
use Rattle.eg_answer.specs.Times.{reaction_of, feeds_to_confirm}
use Rattle.eg_answer.proofs.times.reaction.Goals as goal

pub returns : goal.returns
unfolding reaction_of
returns c =
    let verdicts : c.feeds_to_confirm-verdicts.result ≡ feeds_to_confirm c.args.times.now.weights =
    c.feeds_to_confirm-verdicts.ensures.number ∙ ap feeds_to_confirm c.weights.ensures.weights in
    let period : c.from.result ≡ c.args.times.now.period = c.from.ensures ∙ c.period.ensures.period in
    let send : c.from-2.result ≡ c.args.times.now.send = c.from-2.ensures ∙ c.send.ensures.send in
    ap₂ (λ a b. a - b - 1) (ap₂ (λ n p. (n + 1) * p) verdicts period) send
