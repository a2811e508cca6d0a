use Rattle.std.proofs.Common.{◌≡◌, ◌∙◌, ◌==◌, ap, arith, get_or, ◌+◌}
use Rattle.std.proofs.lemmas.List.{get_or_default, length-set}
use Rattle.eg_campaign.proofs.LeaderLemmas.{counts_next, few_pass}
use Rattle.eg_campaign.proofs.leading.counts_led.Goals as goal

pub overflow_add-index_mut : goal.overflow_add-index_mut
overflow_add-index_mut c =
    let leaders = c.args.leaders.now in
    let i = c.loop-leader.leader-index in
    let below = c.requires i 0 c.loop-leader-test.true in
    let is : c.index_mut.result.now ≡ get_or c.loop-leader.counts.items (get_or leaders i 0) 0 =
    c.index_mut.ensures.value ∙ get_or_default c.loop-leader.counts.items _ _ 0 (omega (arith, below, c.loop-leader.invariant.as_many)) in
    let counted = c.loop-leader.invariant.each (get_or leaders i 0) below in
    let few = few_pass (λ leader. leader == get_or leaders i 0) leaders i c.loop-leader.auto.leader-index-end in
    omega (arith, few, counted, is, c.loop-leader-test.true, c.loop-leader.invariant.as_many, c.loop-leader.counts.ok.0, c.loop-leader.counts.small)

pub loop-leader-preserved : goal.loop-leader-preserved
loop-leader-preserved c =
    let leaders = c.args.leaders.now in
    let i = c.loop-leader.leader-index in
    let below = c.requires i 0 c.loop-leader-test.true in
    let is : c.index_mut.result.now ≡ get_or c.loop-leader.counts.items (get_or leaders i 0) 0 =
    c.index_mut.ensures.value ∙ get_or_default c.loop-leader.counts.items _ _ 0 (omega (arith, below, c.loop-leader.invariant.as_many)) in
    record {
      as_many = length-set c.loop-leader.counts.items _ _ ∙ c.loop-leader.invariant.as_many;
      each = counts_next leaders c.loop-leader.counts.items i (get_or leaders i 0) _ c.loop-leader-test.true
          (get_or_default leaders i 0 (get_or leaders i 0) c.loop-leader-test.true) (omega (arith, below, c.loop-leader.invariant.as_many))
          (ap (λ n. n + 1) is) c.loop-leader.invariant.each;
    }
