use Rattle.std.proofs.Common.{◌∙◌, sym, ap, subst}
use Rattle.eg_answer.specs.declared.rules.Rules.{Rules}
use Rattle.eg_record.specs.Tallies.{IsTallyOf}
use Rattle.eg_record.specs.Margins.{IsMarginTallyOf}
use Rattle.eg_tick.proofs.WeighLemmas.{none_weighed}
use Rattle.std.specs.Option.{option_copied}
use Rattle.eg_model.proofs.RecordTicks.{no_rows}
use Rattle.eg_model.specs.Bench.{Run}
use Rattle.eg_tick.specs.Run.{IsAt, run_by}
use Rattle.eg_campaign.specs.Plays.{run_with}
use Rattle.eg_campaign.specs.Groups.{input_under}
use Rattle.eg_campaign.proofs.checkpoints.begin.Goals as goal

pub returns-clause-begun : goal.returns-clause-begun
returns-clause-begun g c = λ weighed.
    let bench = g.E.BenchedEngine.bench in
    let x = c.args.input.now in
    let r : Run = (run_with c.args.calibration.now (input_under (option_copied c.args.fault) x)).run in
    record {
      at = subst (λ image. IsAt bench g.E.BenchedEngine.come_to (run_by c.args.calibration.now image r.setting.fault x.plan.slices x.drive) 0 c.bench_restart.new.controller)
          c.as_slice-image.ensures (c.bench_restart.ensures.at x.plan.slices x.drive);
      ticks = c.bench_restart.ensures.ticks;
      threshold = c.new-tally.ensures.threshold ∙ ap (λ (rules : Rules). rules.threshold) c.rules-rules.ensures.rules;
      weights = c.new-tally.ensures.weights ∙ ap (λ (rules : Rules). rules.torque) c.rules-rules.ensures.rules;
      fed = c.new-tally.ensures.ticks;
      tally = subst (IsTallyOf c.new-tally.result) (sym (no_rows bench r)) c.new-tally.ensures.stands;
      margins = subst (IsMarginTallyOf c.new-margins.result) (sym (none_weighed weighed bench r)) c.new-margins.ensures;
    }
