use Rattle.std.proofs.Common.{◌≡◌, ◌∙◌, sym, ap, subst, true, false, [], get_or, take, Option, not, ◌==◌, arith}
use Rattle.std.specs.Prelude.{filter}
use Rattle.std.specs.List.{flat_map}
use Rattle.std.proofs.lemmas.List.{length-set, drop_all}
use Rattle.eg_fault.specs.declared.class.Fault.{Fault}
use Rattle.eg_fault.specs.Faults.{IsNoneOrValid}
use Rattle.eg_tick.specs.Counting.{count_with, AreCounted}
use Rattle.eg_tick.proofs.CountLemmas.{counted_err}
use Rattle.eg_plan.specs.declared.run_input.RunInput.{RunInput}
use Rattle.eg_plan.specs.Playable.{IsPlayable}
use Rattle.eg_campaign.specs.Groups.{is_alike, input_under, own_on, rows_shared, told_on, written_over}
use Rattle.eg_campaign.proofs.OneGroup.{Counted, begun, more, said, stopped, ended, shared_of, rest-when, wrote, left, all_written, written-when}
use Rattle.eg_campaign.proofs.LeaderLemmas.{item, one_item, leader-at, none-before, led-here, led-elsewhere}
use Rattle.eg_campaign.proofs.AllGroups.{written_before, filter_behind}
use Rattle.eg_campaign.proofs.groups.play_group.Goals as goal

pub returns-in_err-shared-clause-counted : goal.returns-in_err-shared-clause-counted
returns-in_err-shared-clause-counted g c = λ x at.
    let bench = g.E.BenchedEngine.bench in
    let cal = c.args.calibration.now in
    let inputs = c.args.inputs.now in
    let input = c.index-inputs-index.result in
    subst (λ z. AreCounted (rows_shared bench cal inputs z) c.args.steps.now c.share.new.steps c.from_residual.result)
    (one_item inputs c.args.group.index input x c.requires.index c.index-inputs-index.is at)
    (counted_err _ _ _ _ c.from_residual.ensures.0
    (stopped _ _ _ _ _ _ (begun c.args.steps.now (rows_shared bench cal inputs input) c.count_none.ensures) c.in_err-shared.ensures.counted))

pub loop-i-init : goal.loop-i-init
loop-i-init g c =
    let bench = g.E.BenchedEngine.bench in
    let cal = c.args.calibration.now in
    let inputs = c.args.inputs.now in
    let input = c.index-inputs-index.result in
    let index = c.args.group.index in
    let none : (x : RunInput) → x ≡ get_or inputs index x → filter (is_alike x) (take index inputs) ≡ [] = λ x at.
    none-before inputs index x c.requires.index at (sym (leader-at inputs c.args.group.leaders.now c.requires.leaders index x 0 c.requires.index at) ∙ c.requires.leads) in
    record {
      least = omega arith;
      cal = c.in_ok-shared.ensures.bench;
      places = c.requires.places;
      told = λ x at before h. h ∙ written_before (is_alike x) (told_on (not (g.row.WEIGHED == 0)) bench cal) before inputs index (none x at);
      counts = λ x at. said _ _ _ _ _ (ap (flat_map (own_on bench cal)) (filter_behind (is_alike x) inputs index (none x at)))
          (subst (λ z. Counted c.args.steps.now c.share.new.steps (flat_map (own_on bench cal) (filter (is_alike z) inputs)) (rows_shared bench cal inputs z))
          (one_item inputs index input x c.requires.index c.index-inputs-index.is at)
          (more _ _ _ _ _ _ (begun c.args.steps.now (rows_shared bench cal inputs input) c.count_none.ensures) c.in_ok-shared.ensures.counted));
    }

pub play_from-one-requires-clause-shared : goal.play_from-one-requires-clause-shared
play_from-one-requires-clause-shared g c =
    let cal = c.args.calibration.now in
    let inputs = c.args.inputs.now in
    let input = c.index-inputs-index.result in
    let index = c.args.group.index in
    let here = sym (leader-at inputs c.args.group.leaders.now c.requires.leaders index input 0 c.requires.index c.index-inputs-index.is) ∙ c.requires.leads in
    shared_of (not (g.row.WEIGHED == 0)) g.E.BenchedEngine.bench g.E.BenchedEngine.come_to c.in_ok-shared.shared cal input c.index-inputs-i.result
    (led-here inputs c.args.group.leaders.now c.requires.leaders index input c.requires.index c.index-inputs-index.is here c.loop-i.i
    c.index-inputs-i.result _ c.loop-i-test.true c.index-inputs-i.is c.if-leaders-i.false)
    c.in_ok-shared.ensures.shared

-- a run of another group is left out
pub loop-i-preserved-then-leaders-i : goal.loop-i-preserved-then-leaders-i
loop-i-preserved-then-leaders-i g c =
    let bench = g.E.BenchedEngine.bench in
    let cal = c.args.calibration.now in
    let inputs = c.args.inputs.now in
    let leaders = c.args.group.leaders.now in
    let are = c.requires.leaders in
    let index = c.args.group.index in
    let i = c.loop-i.i in
    let one = item inputs i c.loop-i-test.true in
    let y = one.0 in
    let other : (x : RunInput) → x ≡ get_or inputs index x → is_alike x y ≡ false = λ x at.
    led-elsewhere inputs leaders are index x c.requires.index at (sym
    (leader-at inputs leaders are index x 0 c.requires.index at) ∙ c.requires.leads) i y 0 c.loop-i-test.true one.1 c.if-leaders-i.true in
    record {
      least = omega (arith, c.loop-i.invariant.least);
      cal = c.loop-i.invariant.cal;
      places = c.loop-i.invariant.places;
      told = λ x at before h. left (written_over (told_on (not (g.row.WEIGHED == 0)) bench cal) x before) before inputs i y c.loop-i.told c.loop-i-test.true one.1
          (written-when (told_on (not (g.row.WEIGHED == 0)) bench cal) x before y (other x at)) (c.loop-i.invariant.told x at before h);
      counts = λ x at. said _ _ _ _ _ (rest-when (own_on bench cal) (is_alike x) inputs i y c.loop-i-test.true one.1 (other x at)) (c.loop-i.invariant.counts x at);
    }

pub play_from-one-requires-clause-playable : goal.play_from-one-requires-clause-playable
play_from-one-requires-clause-playable g c =
    subst IsPlayable (sym c.index-inputs-i.is) (c.requires.all c.loop-i.i c.index-inputs-i.result c.loop-i-test.true)

pub play_from-one-requires-clause-valid : goal.play_from-one-requires-clause-valid
play_from-one-requires-clause-valid g c =
    subst IsNoneOrValid (sym c.as_ref-fault.ensures.value)
    (subst IsPlayable (sym c.index-inputs-i.is) (c.requires.all c.loop-i.i c.index-inputs-i.result c.loop-i-test.true)).fault

pub loop-i-preserved : goal.loop-i-preserved
loop-i-preserved g c =
    let bench = g.E.BenchedEngine.bench in
    let cal = c.args.calibration.now in
    let inputs = c.args.inputs.now in
    let leaders = c.args.group.leaders.now in
    let are = c.requires.leaders in
    let index = c.args.group.index in
    let input = c.index-inputs-index.result in
    let y = c.index-inputs-i.result in
    let i = c.loop-i.i in
    let own = own_on bench cal in
    let one = c.play_from-one.result in
    let so : (x : RunInput) → x ≡ get_or inputs index x → is_alike x y ≡ true = λ x at.
    led-here inputs leaders are index x c.requires.index at (sym
    (leader-at inputs leaders are index x 0 c.requires.index at) ∙ c.requires.leads) i y 0 c.loop-i-test.true c.index-inputs-i.is c.if-leaders-i.false in
    let under = c.as_ref-fault.ensures.value in
    record {
      least = omega (arith, c.loop-i.invariant.least);
      cal = c.play_from-one.ensures.bench;
      places = length-set c.loop-i.told i one ∙ c.loop-i.invariant.places;
      told = λ x at before h. wrote (written_over (told_on (not (g.row.WEIGHED == 0)) bench cal) x before) before inputs i y c.loop-i.told one
          c.loop-i-test.true c.index-inputs-i.is
          (c.play_from-one.ensures.told.is ∙ ap (λ (f : Option Fault). told_on (not (g.row.WEIGHED == 0)) bench cal
          (input_under f y)) under ∙ written-when (told_on (not (g.row.WEIGHED == 0)) bench cal) x before y (so x at))
          (c.loop-i.invariant.told x at before h);
      counts = λ x at. more _ _ _ _ _ _
          (said _ _ _ _ _ (rest-when own (is_alike x) inputs i y c.loop-i-test.true c.index-inputs-i.is (so x at)) (c.loop-i.invariant.counts x at))
          (c.play_from-one.ensures.counted ∙ ap (λ (f : Option Fault). count_with c.loop-i.steps (own (input_under f y))) under);
    }

pub returns : goal.returns
returns g c =
    let bench = g.E.BenchedEngine.bench in
    let cal = c.args.calibration.now in
    let inputs = c.args.inputs.now in
    let i = c.loop-i.i in
    record {
      bench = c.loop-i.invariant.cal;
      told = λ x at before h. all_written (written_over (told_on (not
          (g.row.WEIGHED == 0)) bench cal) x before) before inputs i c.loop-i.told c.loop-i-test.false (c.loop-i.invariant.told x at before h);
      counted = λ x at. ended _ _ _ (said _ _ _ _ _ (ap (λ l. flat_map (own_on bench cal) (filter (is_alike x) l))
          (drop_all i inputs c.loop-i-test.false)) (c.loop-i.invariant.counts x at));
    }
