use Rattle.std.proofs.Common.{◌∙◌, refl}
use Rattle.std.specs.Option.{option_copied}
use Rattle.eg_model.specs.Engines.{gasoline}
use Rattle.eg_model.specs.Bench.{Run}
use Rattle.eg_tick.specs.Benched.{gasoline_of}
use Rattle.eg_tick.specs.Run.{run_by, IsAt}
use Rattle.eg_tick.proofs.RunLemmas.{recorded}
use Rattle.eg_tick.proofs.run.record_run.Goals as goal

pub returns-clause-made : goal.returns-clause-made
returns-clause-made c =
    let r : Run = run_by c.args.calibration.now c.args.image.now (option_copied c.args.fault) c.args.plan.now c.args.drive.now in
    let begun : IsAt gasoline gasoline_of r 0 c.bench_controller-controller.result = c.bench_controller-controller.ensures.at c.args.plan.now c.args.drive.now in
    recorded gasoline_of r c.make_rows.new.controller c.record_of.result.rows c.record_of.result.trap (c.in_ok-rows.ensures.at r refl refl begun)
    (c.record_of.ensures.rows ∙ c.in_ok-rows.ensures.rows r refl refl begun) c.record_of.ensures.trap

pub returns-clause-counted : goal.returns-clause-counted
returns-clause-counted c =
    let r : Run = run_by c.args.calibration.now c.args.image.now (option_copied c.args.fault) c.args.plan.now c.args.drive.now in
    c.in_ok-rows.ensures.counted r refl refl (c.bench_controller-controller.ensures.at c.args.plan.now c.args.drive.now)
