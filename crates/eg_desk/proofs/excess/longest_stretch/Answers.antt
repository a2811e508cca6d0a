use Rattle.std.proofs.Common.{rules, ◌≤◌, subst, arith}
use Rattle.eg_answer.specs.Times.{feeds_to_confirm}
use Rattle.eg_values.specs.Excess.{longest_stretch, ticks_to_confirm}
use Rattle.eg_desk.proofs.LimitLemmas.{reaction-small}
use Rattle.eg_desk.proofs.excess.longest_stretch.Goals as goal

pub overflow_add-result : goal.overflow_add-result
overflow_add-result c =
    let verdicts = c.feeds_to_confirm-verdicts.ensures in
    let few : feeds_to_confirm c.times-times.result.now.weights ≤ 10000 =
    subst (λ w. feeds_to_confirm w ≤ 10000) c.weights.ensures.weights (subst (λ n. n ≤ 10000) verdicts.number verdicts.within) in
    let small = reaction-small c.times-times.result.now few c.weights.ensures.times.longest in
    let reaction = c.reaction.ensures in
    let excess = c.feeds_to_confirm.ensures.within in
    omega (arith, small, reaction, excess)

pub returns : goal.returns
unfolding longest_stretch ticks_to_confirm
returns c = search rules
