use Rattle.std.proofs.Common.{sym, subst, not, ◌==◌}
use Rattle.eg_model.specs.Engines.{bench_of}
use Rattle.eg_campaign.specs.Plays.{IsPlayed, run_with}
use Rattle.eg_campaign.proofs.kinds.tell_one.Goals as goal

pub returns-in-Gasoline-clause-told : goal.returns-in-Gasoline-clause-told
returns-in-Gasoline-clause-told g c = subst
    (λ engine. IsPlayed (not (g.row.WEIGHED == 0)) (bench_of engine) (run_with c.args.calibration.now c.args.input.now).run c.args.steps.now c.play_alone.new.steps c.play_alone.result)
    (sym c.in-Gasoline.is) c.play_alone.ensures.told

pub returns-in-Diesel-clause-told : goal.returns-in-Diesel-clause-told
returns-in-Diesel-clause-told g c = subst
    (λ engine. IsPlayed (not (g.row.WEIGHED == 0)) (bench_of engine) (run_with c.args.calibration.now c.args.input.now).run c.args.steps.now c.play_alone-in-Diesel.new.steps c.play_alone-in-Diesel.result)
    (sym c.in-Diesel.is) c.play_alone-in-Diesel.ensures.told
