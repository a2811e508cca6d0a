use Rattle.std.proofs.Common.{◌≡◌, map, take}
use Rattle.eg_record.specs.declared.run_facts.RunFacts.{RunFacts}
use Rattle.eg_campaign.proofs.play.facts_of_all.Given as goal

-- the facts so far
abbrev pub invariant-loop-one : goal.invariant-loop-one
invariant-loop-one l = record {
  facts : l.facts.items ≡ map (λ (one : RunFacts). one.facts) (take l.one-index l.told);
}
