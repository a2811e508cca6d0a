use Rattle.std.proofs.Common.{subst}
use Rattle.eg_plant.specs.declared.engine_kind.EngineKind.TheVariants as kind
use Rattle.eg_campaign.specs.Plays.{run_with}
use Rattle.eg_campaign.specs.Recording.{WritesRecord}
use Rattle.eg_campaign.proofs.PlayLemmas.{rows_by}
use Rattle.eg_campaign.proofs.kinds.record_into.Goals as goal

pub returns-in-Gasoline : goal.returns-in-Gasoline
returns-in-Gasoline g c =
    subst (λ rows. WritesRecord rows (g.K.Sink.shows c.args.out.now) (g.K.Sink.shows c.record_on.new.out) c.args.steps.now c.record_on.new.steps c.record_on.result)
    (rows_by (run_with c.args.calibration.now c.args.input.now) kind.Gasoline c.in-Gasoline.is) c.record_on.ensures

pub returns-in-Diesel : goal.returns-in-Diesel
returns-in-Diesel g c =
    subst (λ rows. WritesRecord rows (g.K.Sink.shows c.args.out.now) (g.K.Sink.shows c.record_on-in-Diesel.new.out) c.args.steps.now c.record_on-in-Diesel.new.steps c.record_on-in-Diesel.result)
    (rows_by (run_with c.args.calibration.now c.args.input.now) kind.Diesel c.in-Diesel.is) c.record_on-in-Diesel.ensures
