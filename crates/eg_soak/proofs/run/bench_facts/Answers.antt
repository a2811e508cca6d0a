use Rattle.std.proofs.Common.{sym, refl}
use Rattle.std.specs.Option.{option_copied}
use Rattle.eg_model.specs.Bench.{Run}
use Rattle.eg_tick.specs.Run.{run_by}
use Rattle.eg_soak.proofs.run.bench_facts.Goals as goal

pub facts_by-requires-clause-run : goal.facts_by-requires-clause-run
facts_by-requires-clause-run g c =
    let r : Run = run_by c.args.calibration.now c.args.image.now (option_copied c.args.fault) c.args.plan.now c.args.drive.now in
    (r, refl, refl, c.bench_controller-controller.ensures.at c.args.plan.now c.args.drive.now)

pub returns-clause-told : goal.returns-clause-told
returns-clause-told g c =
    let r : Run = run_by c.args.calibration.now c.args.image.now (option_copied c.args.fault) c.args.plan.now c.args.drive.now in
    c.facts_by.ensures.told r refl refl (sym c.rules-rules.ensures.rules) (c.bench_controller-controller.ensures.at c.args.plan.now c.args.drive.now)

pub returns-clause-counted : goal.returns-clause-counted
returns-clause-counted g c =
    let r : Run = run_by c.args.calibration.now c.args.image.now (option_copied c.args.fault) c.args.plan.now c.args.drive.now in
    c.facts_by.ensures.counted r refl refl (c.bench_controller-controller.ensures.at c.args.plan.now c.args.drive.now)
