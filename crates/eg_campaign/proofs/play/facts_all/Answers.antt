use Rattle.std.proofs.Common.{◌∙◌, ap, map}
use Rattle.std.proofs.lemmas.Simd.{map-map}
use Rattle.std.proofs.lemmas.Result.{IfOk-weaker}
use Rattle.eg_record.specs.declared.run_facts.RunFacts.{RunFacts}
use Rattle.eg_campaign.specs.Groups.{told_with}
use Rattle.eg_tick.proofs.CountLemmas.{counted_all}
use Rattle.eg_campaign.proofs.play.facts_all.Goals as goal

pub returns : goal.returns
returns c = record {
  told = IfOk-weaker c.facts_of_all.result _ _ (λ facts is. is ∙ ap (map (λ (t : RunFacts). t.facts)) (c.deref.ensures.value ∙ c.in_ok-told.ensures.told)
      ∙ map-map (λ (t : RunFacts). t.facts) (told_with c.args.calibration.now) c.args.inputs.now) c.facts_of_all.ensures;
  counted = counted_all _ _ _ _ c.in_ok-told.ensures.counted;
}
