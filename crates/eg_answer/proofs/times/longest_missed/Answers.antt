use Rattle.std.proofs.Common.{ℕ, ◌+◌, ◌-◌, ◌*◌, ◌≤◌, ap, ap₂, ◌∙◌, subst, arith}
use Rattle.eg_answer.specs.Times.{TimeParts, feeds_to_confirm, reaction_of, longest_missed_of}
use Rattle.eg_answer.proofs.times.longest_missed.Goals as goal

reaction_small : (times : TimeParts) → feeds_to_confirm times.weights ≤ 10000 → times.period ≤ 100 → reaction_of times ≤ 1000100
unfolding reaction_of
reaction_small times few short = law (feeds_to_confirm times.weights) times.period times.send few short
  where
    law : (n p send : ℕ) → n ≤ 10000 → p ≤ 100 → (n + 1) * p - send - 1 ≤ 1000100
    law n p send few short = let a : (n + 1) * p ≤ 10001 * p = grind (arith, few) in omega (arith, a, short)

pub overflow_add-listed : goal.overflow_add-listed
overflow_add-listed c =
    let verdicts = c.feeds_to_confirm-verdicts.ensures in
    let few : feeds_to_confirm c.args.times.now.weights ≤ 10000 =
    subst (λ w. feeds_to_confirm w ≤ 10000) c.weights.ensures.weights (subst (λ n. n ≤ 10000) verdicts.number verdicts.within) in
    let small = reaction_small c.args.times.now few c.weights.ensures.times.longest in
    omega (arith, small, c.reaction.ensures, c.feeds_to_confirm.ensures.within)

pub overflow_add-result : goal.overflow_add-result
overflow_add-result c =
    let verdicts = c.feeds_to_confirm-verdicts.ensures in
    let few : feeds_to_confirm c.args.times.now.weights ≤ 10000 =
    subst (λ w. feeds_to_confirm w ≤ 10000) c.weights.ensures.weights (subst (λ n. n ≤ 10000) verdicts.number verdicts.within) in
    let small = reaction_small c.args.times.now few c.weights.ensures.times.longest in
    omega (arith, small, c.reaction.ensures, c.feeds_to_confirm.ensures.within, c.further_ticks.ensures.within, c.saturating_sub.ensures)

pub returns : goal.returns
unfolding longest_missed_of
returns c = ap₂ (λ a b. a + b)
    (ap₂ (λ a b. a - 1 + b) c.feeds_to_confirm.ensures.number c.reaction.ensures)
    (c.saturating_sub.ensures ∙ ap (λ n. n - 1) c.further_ticks.ensures.number)
