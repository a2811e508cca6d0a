use Rattle.std.proofs.Common.{◌≡◌, ◌∙◌, sym, ap, subst, ◌+◌, ◌<◌, List, map, length, not, ◌==◌, arith}
use Rattle.std.specs.Prelude.{filter}
use Rattle.std.proofs.lemmas.List.{get_or_default, length-map}
use Rattle.eg_record.specs.declared.run_facts.RunFacts.{RunFacts}
use Rattle.eg_campaign.specs.Groups.{leader_in, told_by, written_over}
use Rattle.eg_campaign.proofs.OneGroup.{begun, out_none}
use Rattle.eg_campaign.proofs.LeaderLemmas.{item, leader-at, leaders-below, led-before, not_led}
use Rattle.eg_campaign.proofs.AllGroups.{Goes, told_after, places, wrote_back, not_told, goes-begin, goes-on, goes-new, goes-stopped, goes-end-told, goes-end-counted}
use Rattle.eg_campaign.proofs.play.told_all.Goals as goal

pub loop-i-init : goal.loop-i-init
loop-i-init g c = record {
  benches = c.new-benches.ensures;
  goes = goes-begin (not (g.row.WEIGHED == 0)) c.args.calibration.now c.args.inputs.now _ c.in_ok-told.ensures.0 _ c.in_ok-told.ensures.1 (begun c.args.steps.now _ c.count_none.ensures);
}

pub returns-in_err-leaders : goal.returns-in_err-leaders
returns-in_err-leaders g c = not_told _ _ _ _ _ _ c.from_residual.ensures.0 (out_none _ _ c.count_none.ensures)

pub returns-in_err-told : goal.returns-in_err-told
returns-in_err-told g c = not_told _ _ _ _ _ _ c.from_residual-in_err-told.ensures.0 (out_none _ _ c.count_none.ensures)

pub counts_led-requires : goal.counts_led-requires
counts_led-requires g c = leaders-below c.args.inputs.now c.deref.result.now (c.deref.ensures.value ∙ c.in_ok-leaders.ensures)

pub returns-in_err-counts : goal.returns-in_err-counts
returns-in_err-counts g c = not_told _ _ _ _ _ _ c.from_residual-in_err-counts.ensures.0 (out_none _ _ c.count_none.ensures)

pub play_first-requires-clause-size : goal.play_first-requires-clause-size
play_first-requires-clause-size g c =
    let inputs = c.args.inputs.now in
    let i = c.loop-i.i in
    let below : i < length c.deref.result.now =
    let long = length-map inputs (leader_in inputs) in
    subst (λ l. i < length l) (sym (c.deref.ensures.value ∙ c.in_ok-leaders.ensures)) (omega (arith, long, c.loop-i-test.true)) in
    c.index-in-loop-i.ensures ∙ get_or_default c.in_ok-counts.counts.items i _ 0 (omega (arith, below, c.in_ok-counts.ensures.as_many)) ∙ c.in_ok-counts.ensures.each i below
    ∙ ap (λ l. length (filter (λ leader. leader == i) l)) (c.deref.ensures.value ∙ sym c.deref-in-loop-i.ensures.value)

pub play_first-requires-clause-playable : goal.play_first-requires-clause-playable
play_first-requires-clause-playable g c = c.requires

pub play_first-requires-clause-benches : goal.play_first-requires-clause-benches
play_first-requires-clause-benches g c = c.loop-i.invariant.benches

pub play_first-requires-clause-leaders : goal.play_first-requires-clause-leaders
play_first-requires-clause-leaders g c = c.deref-in-loop-i.ensures.value ∙ c.in_ok-leaders.ensures

pub play_first-requires-clause-places : goal.play_first-requires-clause-places
play_first-requires-clause-places g c = ap length c.deref_mut.ensures.value
    ∙ places (not (g.row.WEIGHED == 0)) c.args.calibration.now c.args.inputs.now c.loop-i.i _ _ _ c.loop-i.invariant.goes

-- a run whose group was played
pub loop-i-preserved-then-index-i : goal.loop-i-preserved-then-index-i
loop-i-preserved-then-index-i g c =
    let inputs = c.args.inputs.now in
    let i = c.loop-i.i in
    let one = item inputs i c.loop-i-test.true in
    let leader = c.index.ensures ∙ leader-at inputs _ c.in_ok-leaders.ensures i one.0 _ c.loop-i-test.true one.1 in
    record {
      benches = c.loop-i.invariant.benches;
      goes = goes-on (not (g.row.WEIGHED == 0)) c.args.calibration.now inputs i one.0 c.loop-i-test.true one.1 _ _ _
          (led-before inputs i one.0 c.loop-i-test.true one.1 (λ here. c.if-index-i.true (leader ∙ here))) c.loop-i.invariant.goes;
    }

pub returns-in_err-play_first : goal.returns-in_err-play_first
returns-in_err-play_first g c =
    let inputs = c.args.inputs.now in
    let i = c.loop-i.i in
    let one = item inputs i c.loop-i-test.true in
    let leader = c.index.ensures ∙ leader-at inputs _ c.in_ok-leaders.ensures i one.0 _ c.loop-i-test.true one.1 in
    not_told _ _ _ _ _ _ c.from_residual-in_err-play_first.ensures.0
    (goes-stopped (not (g.row.WEIGHED == 0)) c.args.calibration.now inputs i one.0 c.loop-i-test.true one.1 _ _ _ _
    (not_led inputs i one.0 c.loop-i-test.true one.1 (sym leader ∙ c.if-index-i.false)) c.loop-i.invariant.goes (c.in_err-play_first.ensures.counted one.0 one.1))

pub loop-i-preserved : goal.loop-i-preserved
loop-i-preserved g c =
    let cal = c.args.calibration.now in
    let inputs = c.args.inputs.now in
    let i = c.loop-i.i in
    let one = item inputs i c.loop-i-test.true in
    let leader = c.index.ensures ∙ leader-at inputs _ c.in_ok-leaders.ensures i one.0 _ c.loop-i-test.true one.1 in
    let so_far = c.loop-i.invariant.goes in
    let w = written_over (told_by (not (g.row.WEIGHED == 0)) cal) one.0 (told_after (not (g.row.WEIGHED == 0)) cal so_far.none inputs i) in
    let written : c.play_first.new.told ≡ map w inputs =
    c.in_ok-play_first.ensures.told one.0 one.1 (told_after (not (g.row.WEIGHED == 0)) cal so_far.none inputs i) (c.deref_mut.ensures.value ∙ so_far.told_are) in
    let back = wrote_back c.loop-i.told.len c.play_first.new.told c.loop-i.told.items inputs w written (places (not (g.row.WEIGHED == 0)) cal inputs i _ _ _ so_far) c.loop-i.told.ok.0 in
    record {
      benches = c.in_ok-play_first.ensures.benches;
      goes = subst (λ (l : List RunFacts). Goes (not (g.row.WEIGHED == 0)) cal inputs (i + 1) l c.args.steps.now c.play_first.new.steps) (sym back)
          (goes-new (not (g.row.WEIGHED == 0)) cal inputs i one.0 c.loop-i-test.true one.1 _ _ _ _ _
          (not_led inputs i one.0 c.loop-i-test.true one.1 (sym leader ∙ c.if-index-i.false)) so_far written (c.in_ok-play_first.ensures.counted one.0 one.1));
    }

pub returns : goal.returns
returns g c = record {
  told = goes-end-told _ _ _ _ _ _ _ c.loop-i-test.false c.loop-i.invariant.goes;
  counted = goes-end-counted _ _ _ _ _ _ _ c.loop-i-test.false c.loop-i.invariant.goes;
}
