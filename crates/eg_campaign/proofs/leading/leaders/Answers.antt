use Rattle.std.proofs.Common.{◌≡◌, ◌∙◌, sym, ap, ap₂, length, arith, List, ℕ, [], ◌∷◌, ◌++◌}
use Rattle.std.specs.HashMap.{get}
use Rattle.eg_campaign.specs.Groups.{leader_in}
use Rattle.eg_campaign.specs.Inner.Keys.{is_same_key}
use Rattle.eg_campaign.proofs.PlayLemmas.{map-more}
use Rattle.eg_campaign.proofs.LeaderLemmas.{leader-alone, leader-found, found-in-key, found-next}
use Rattle.eg_campaign.proofs.leading.leaders.Goals as goal

pub loop-i-preserved : goal.loop-i-preserved
loop-i-preserved c =
    let inputs = c.args.inputs.now in
    let x = c.index-inputs-i.result in
    let i = c.loop-i.i in
    let key = c.of.result in
    let so_far = c.loop-i.invariant.firsts in
    let leader = leader-found inputs i x c.loop-i-test.true c.index-inputs-i.is (get is_same_key c.loop-i.firsts key) c.in_ok-leader.leader
    (found-in-key inputs i x c.loop-i-test.true c.index-inputs-i.is key c.of.ensures.number c.of.ensures.input (get is_same_key c.loop-i.firsts) so_far) c.in_ok-leader.ensures.first in
    record {
      leaders = c.in_ok-push-2.ensures.items ∙ ap₂ (λ (all : List ℕ) (one : ℕ). all ++ one ∷ []) c.loop-i.invariant.leaders leader
          ∙ sym (map-more (leader_in inputs) inputs i x c.loop-i-test.true c.index-inputs-i.is);
      firsts = found-next inputs i x c.loop-i-test.true c.index-inputs-i.is key c.of.ensures.number c.of.ensures.input
          (get is_same_key c.loop-i.firsts) (get is_same_key c.first_or.new.firsts) so_far c.in_ok-leader.ensures.put;
    }

pub returns-then-inputs-eq1 : goal.returns-then-inputs-eq1
returns-then-inputs-eq1 c = c.in_ok-push.ensures.items ∙ ap (λ (all : List ℕ). all ++ 0 ∷ []) c.new-leaders.ensures.items ∙ leader-alone c.args.inputs.now alone
  where
    alone : length c.args.inputs.now ≡ 1
    alone = let so = c.if-inputs-eq1.true in omega arith
