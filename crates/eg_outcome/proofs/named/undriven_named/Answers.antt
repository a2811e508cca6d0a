use Rattle.std.proofs.Common.{refl}
use Rattle.eg_outcome.specs.Inputs.{outcomes}
use Rattle.eg_outcome.specs.Runs.{FoundUndriven}
use Rattle.eg_outcome.proofs.NameLemmas.{found-comes, reads-both}
use Rattle.eg_outcome.proofs.named.undriven_named.Goals as goal

pub returns-in-Ok-clause-comes : goal.returns-in-Ok-clause-comes
returns-in-Ok-clause-comes g c =
    found-comes FoundUndriven c.args.run.campaign.now c.args.run.name.now _ _ (g.S.Store.shows c.undriven_for.new.store) _ (outcomes c.undriven_for.result)
    c.in-Ok.ensures.found (c.in-Ok.ensures.campaign.keeps.shown refl) c.undriven_for.ensures.comes

pub returns-in-Ok-clause-campaign : goal.returns-in-Ok-clause-campaign
returns-in-Ok-clause-campaign g c =
    let rest = c.undriven_for.ensures in
    reads-both c.args.run.campaign.now c.args.run.name.now _ _ (g.S.Store.shows c.undriven_for.new.store) c.in-Ok.number c.in-Ok.plan c.undriven_for.result
    c.in-Ok.ensures.found c.in-Ok.ensures.campaign rest.named rest.no_memory rest.keeps
