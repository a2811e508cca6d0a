use Rattle.std.proofs.Common.{◌≡◌, ◌+◌, ◌-◌, ◌*◌, ◌/◌, min, ap, ap₂, ◌∙◌}
use Rattle.eg_answer.specs.Times.{feeds_to_confirm, most_wrong}
use Rattle.eg_answer.proofs.times.most_wrong.Goals as goal

pub returns-clause-number : goal.returns-clause-number
unfolding most_wrong
returns-clause-number c =
    let limit : c.from.result ≡ c.args.weights.now.limit = c.from.ensures ∙ c.limit.ensures.limit in
    let down : c.from-2.result ≡ c.args.weights.now.down = c.from-2.ensures ∙ c.down.ensures.down in
    let up : c.from-3.result ≡ c.args.weights.now.up = c.from-3.ensures ∙ c.up.ensures.up in
    let verdicts : c.feeds_to_confirm-verdicts.result ≡ feeds_to_confirm c.args.weights.now = c.feeds_to_confirm-verdicts.ensures.number in
    c.min.ensures
    ∙ ap₂ min (ap₂ (λ l u. l / u + 1) (ap₂ (λ l d. l - 1 + c.args.rights * d) limit down) up)
    (ap (λ n. n + c.args.rights * (n - 1)) verdicts)
