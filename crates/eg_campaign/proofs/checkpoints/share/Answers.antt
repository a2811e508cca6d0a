use Rattle.std.proofs.Common.{◌≡◌, ◌∙◌, ◌<◌, ◌≤◌, refl, ap, subst, length, arith, not, ◌==◌}
use Rattle.eg_fault.specs.Faults.{IsNoneOrValid}
use Rattle.eg_model.specs.Bench.{Run}
use Rattle.eg_campaign.specs.Plays.{run_with}
use Rattle.eg_campaign.specs.Groups.{faultless}
use Rattle.eg_campaign.specs.Inner.Checkpoints.{HasMade, AreCheckpoints}
use Rattle.eg_tick.proofs.CountLemmas.{counted_err, long}
use Rattle.eg_campaign.proofs.OneGroup.{out_none}
use Rattle.eg_campaign.proofs.CheckpointLemmas.{made_none, made_front, made_all, kept_none}
use Rattle.eg_campaign.proofs.checkpoints.share.Goals as goal

pub begin-requires-clause-valid : goal.begin-requires-clause-valid
unfolding IsNoneOrValid
begin-requires-clause-valid g c = tt

pub loop-tick-init : goal.loop-tick-init
loop-tick-init g c =
    let weighed = not (g.row.WEIGHED == 0) in
    let bench = g.E.BenchedEngine.bench in
    let come_to = g.E.BenchedEngine.come_to in
    let r : Run = (run_with c.args.calibration.now (faultless c.args.input.now)).run in
    record {
      sure = c.begin.ensures.sure;
      made = made_none weighed bench come_to r 0 c.begin.new.played c.args.steps.now c.count_none.ensures (c.begin.ensures.begun weighed);
      kept = kept_none weighed bench come_to r c.args.wanted.now c.new-checkpoints.result.items c.new-checkpoints.ensures.items;
    }

pub returns-in_err-last-clause-counted : goal.returns-in_err-last-clause-counted
returns-in_err-last-clause-counted g c = counted_err _ _ _ _ c.from_residual.ensures.0 (out_none _ _ c.count_none.ensures)

pub returns-in_err-keep-clause-counted : goal.returns-in_err-keep-clause-counted
returns-in_err-keep-clause-counted g c =
    let weighed = not (g.row.WEIGHED == 0) in
    let bench = g.E.BenchedEngine.bench in
    let r : Run = (run_with c.args.calibration.now (faultless c.args.input.now)).run in
    let below : c.loop-tick.tick < length r.drive = subst (λ d. c.loop-tick.tick < length d) c.as_slice-tick-end.ensures c.loop-tick-test.true in
    let within : c.loop-tick.tick ≤ length r.drive = omega (arith, below) in
    counted_err _ _ _ _ c.from_residual-in_err-keep.ensures.0 (record {
      made = c.loop-tick.tick;
      most = subst (λ n. c.loop-tick.tick ≤ n) (long bench r) within;
      counted = made_front weighed bench g.E.BenchedEngine.come_to r _ _ _ _ c.loop-tick.invariant.made within;
    })

pub play_row-requires-clause-run : goal.play_row-requires-clause-run
play_row-requires-clause-run g c = ((run_with c.args.calibration.now (faultless c.args.input.now)).run, record { plan = refl; drive = refl }, c.loop-tick.invariant.made.to)

pub loop-tick-preserved : goal.loop-tick-preserved
loop-tick-preserved g c =
    let weighed = not (g.row.WEIGHED == 0) in
    let r : Run = (run_with c.args.calibration.now (faultless c.args.input.now)).run in
    record {
      sure = c.play_row.ensures.stays_sure;
      made = c.play_row.ensures.made r 0 c.args.steps.now (record { plan = refl; drive = refl }) c.loop-tick.invariant.made;
      kept = c.in_ok-keep.ensures weighed r c.loop-tick.invariant.made.to c.loop-tick.invariant.kept;
    }

pub returns : goal.returns
returns g c =
    let weighed = not (g.row.WEIGHED == 0) in
    let bench = g.E.BenchedEngine.bench in
    let come_to = g.E.BenchedEngine.come_to in
    let r : Run = (run_with c.args.calibration.now (faultless c.args.input.now)).run in
    let end : c.loop-tick.tick ≡ length c.as_slice-tick-end.result.now = omega (arith, c.loop-tick-test.false, c.loop-tick.auto.tick-end) in
    let all : c.loop-tick.tick ≡ length r.drive = end ∙ ap length c.as_slice-tick-end.ensures in
    let made = subst (λ n. HasMade weighed bench come_to r 0 n c.loop-tick.played c.args.steps.now c.loop-tick.steps) all c.loop-tick.invariant.made in
    record {
      shared = record {
        checkpoints = subst (λ n. AreCheckpoints weighed bench come_to r c.args.wanted.now n c.loop-tick.checkpoints.items) all c.loop-tick.invariant.kept;
        told = c.told_so_far.ensures weighed r made.to;
      };
      wanted = refl;
      counted = made_all weighed bench come_to r c.loop-tick.played c.args.steps.now c.loop-tick.steps made;
      bench = made.to.at.stands.cal;
    }
