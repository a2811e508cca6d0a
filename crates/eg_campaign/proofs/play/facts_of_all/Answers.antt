use Rattle.std.proofs.Common.{◌∙◌, ap, map}
use Rattle.std.proofs.lemmas.List.{take_all}
use Rattle.eg_record.specs.declared.run_facts.RunFacts.{RunFacts}
use Rattle.eg_campaign.proofs.PlayLemmas.{map-next}
use Rattle.eg_campaign.proofs.play.facts_of_all.Goals as goal

pub loop-one-preserved : goal.loop-one-preserved
loop-one-preserved c = record {
  facts = map-next (λ (one : RunFacts). one.facts) c.args.told.now c.loop-one.one-index _ _ _ c.loop-one-test.true c.in_ok-push.ensures.items c.loop-one.invariant.facts;
}

pub returns : goal.returns
returns c = c.loop-one.invariant.facts ∙ ap (map (λ (one : RunFacts). one.facts)) (take_all c.loop-one.one-index c.args.told.now c.loop-one-test.false)
