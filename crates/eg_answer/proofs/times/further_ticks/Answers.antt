use Rattle.std.proofs.Common.{◌≡◌, ℕ, ◌+◌, ◌-◌, ◌*◌, ◌≤◌, sym, ap, ap₂, ◌∙◌, subst, arith}
use Rattle.eg_num.specs.Windows.{WeightParts}
use Rattle.eg_answer.specs.Times.{feeds_to_confirm, rights_between, most_wrong, further_ticks}
use Rattle.eg_answer.proofs.times.further_ticks.Goals as goal

-- so many ticks are few
few_ticks : (w : WeightParts) (period : ℕ) (verdicts rights wrong more ticks : ℕ) → verdicts ≡ feeds_to_confirm w →
    verdicts ≤ 10000 → rights * period ≤ 10000 → wrong ≤ feeds_to_confirm w + rights * (feeds_to_confirm w - 1) →
    more ≡ wrong - verdicts → ticks ≡ period → more * ticks ≤ 100000000
few_ticks w period verdicts rights wrong more ticks is small room within more_is ticks_is =
    rw (more_is, ticks_is) (law (subst (λ n. wrong ≤ n + rights * (n - 1)) (sym is) within))
  where
    scaled : (a b p : ℕ) → a ≤ b → a * p ≤ b * p
    scaled a b p l = grind arith

    law : wrong ≤ verdicts + rights * (verdicts - 1) → (wrong - verdicts) * period ≤ 100000000
    law l =
        let one = scaled (wrong - verdicts) (rights * (verdicts - 1)) period (omega (arith, l)) in
        let two = scaled (rights * period) 10000 (verdicts - 1) room in
        let same : rights * (verdicts - 1) * period ≡ rights * period * (verdicts - 1) = turned rights (verdicts - 1) period in
        omega (arith, one, two, same, small)
      where
        turned : (a b c : ℕ) → a * b * c ≡ a * c * b
        turned a b c = grind arith

pub overflow_mul-result : goal.overflow_mul-result
overflow_mul-result c =
    let few = few_ticks c.weights-answers.result.now c.args.times.now.period _ _ _ _ _ c.feeds_to_confirm-verdicts.ensures.number
    c.feeds_to_confirm-verdicts.ensures.within c.rights_between.ensures.ticks c.most_wrong-wrong.ensures.within
    c.saturating_sub.ensures (c.from.ensures ∙ c.period.ensures.period) in
    omega (arith, few)

pub returns-clause-within : goal.returns-clause-within
returns-clause-within c =
    few_ticks c.weights-answers.result.now c.args.times.now.period _ _ _ _ _ c.feeds_to_confirm-verdicts.ensures.number
    c.feeds_to_confirm-verdicts.ensures.within c.rights_between.ensures.ticks c.most_wrong-wrong.ensures.within
    c.saturating_sub.ensures (c.from.ensures ∙ c.period.ensures.period)

pub returns-clause-number : goal.returns-clause-number
unfolding further_ticks
returns-clause-number c =
    let period : c.from.result ≡ c.args.times.now.period = c.from.ensures ∙ c.period.ensures.period in
    let weights : c.weights-answers.result.now ≡ c.args.times.now.weights = c.weights-answers.ensures.weights in
    let verdicts : c.feeds_to_confirm-verdicts.result ≡ feeds_to_confirm c.args.times.now.weights =
    c.feeds_to_confirm-verdicts.ensures.number ∙ ap feeds_to_confirm weights in
    let wrong : c.most_wrong-wrong.result ≡ most_wrong c.args.times.now.weights (rights_between c.args.torque.now c.args.times.now) =
    c.most_wrong-wrong.ensures.number ∙ ap₂ most_wrong weights c.rights_between.ensures.number in
    ap₂ (λ n p. n * p) (c.saturating_sub.ensures ∙ ap₂ (λ a b. a - b) wrong verdicts) period
