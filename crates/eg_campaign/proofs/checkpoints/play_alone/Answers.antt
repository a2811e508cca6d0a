use Rattle.std.proofs.Common.{refl, subst, not, ◌==◌}
use Rattle.eg_model.specs.Bench.{Run}
use Rattle.eg_campaign.specs.Plays.{run_with}
use Rattle.eg_campaign.specs.Groups.{input_under}
use Rattle.eg_campaign.specs.Inner.Checkpoints.{HasPlayed}
use Rattle.eg_campaign.proofs.CheckpointLemmas.{made_all}
use Rattle.eg_campaign.proofs.checkpoints.play_alone.Goals as goal

pub play_on-requires-clause-run : goal.play_on-requires-clause-run
play_on-requires-clause-run g c =
    let weighed = not (g.row.WEIGHED == 0) in
    let x = c.args.input.now in (
      (run_with c.args.calibration.now x).run,
      record { plan = refl; drive = refl },
      subst (λ f. HasPlayed weighed g.E.BenchedEngine.bench g.E.BenchedEngine.come_to (run_with c.args.calibration.now (input_under f x)).run 0 c.begin.new.played)
          c.as_ref-fault.ensures.value (c.begin.ensures.begun weighed),
    )

pub returns : goal.returns
returns g c =
    let weighed = not (g.row.WEIGHED == 0) in
    let bench = g.E.BenchedEngine.bench in
    let x = c.args.input.now in
    let r : Run = (run_with c.args.calibration.now x).run in
    let made = c.play_on.ensures r (record { plan = refl; drive = refl })
    (subst (λ f. HasPlayed weighed bench g.E.BenchedEngine.come_to (run_with c.args.calibration.now (input_under f x)).run 0 c.begin.new.played)
    c.as_ref-fault.ensures.value (c.begin.ensures.begun weighed)) in
    record {
      told = record {
        told = c.told_so_far.ensures weighed r made.to;
        counted = made_all weighed bench g.E.BenchedEngine.come_to r c.play_on.new.played c.args.steps.now c.play_on.new.steps made;
      };
      bench = made.to.at.stands.cal;
    }
