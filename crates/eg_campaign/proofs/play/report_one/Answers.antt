use Rattle.std.proofs.Common.{◌∙◌, ap}
use Rattle.std.proofs.lemmas.Result.{IfOk-weaker}
use Rattle.eg_answer.specs.Times.{reaction_of}
use Rattle.eg_record.specs.declared.run_facts.RunFacts.{RunFacts}
use Rattle.eg_tick.specs.Facts.{record_facts}
use Rattle.eg_model.specs.EngineRuns.{rows_of_run}
use Rattle.eg_campaign.specs.Plays.{run_with}
use Rattle.eg_campaign.proofs.PlayLemmas.{report_is}
use Rattle.eg_campaign.proofs.play.report_one.Goals as goal

pub returns : goal.returns
unfolding record_facts
returns c =
    let cal = c.args.calibration.now in
    let r = run_with cal c.args.input.now in
    IfOk-weaker c.summary.result _ _ (λ summary is. report_is _ _ r _ _ summary c.as_str-name.ensures
    (ap (λ (t : RunFacts). t.trap) c.requires) (c.reaction.ensures ∙ ap reaction_of c.times.ensures.times) is)
    (c.summary.ensures.rows cal.rules.torque cal.rules.threshold (rows_of_run r) (ap (λ (t : RunFacts). t.facts) c.requires))
