use Rattle.std.proofs.Common.{ap, ◌∙◌}
use Rattle.eg_plant.specs.PlantParts.{PlantParts}
use Rattle.eg_tick.proofs.RunLemmas.{started}
use Rattle.eg_tick.proofs.bench.bench_begin.Goals as goal

pub returns-clause-at : goal.returns-clause-at
returns-clause-at g c =
    let bench = g.E.BenchedEngine.bench in
    let come_to = g.E.BenchedEngine.come_to in
    started bench come_to _ _ c.args.image.now _ _ _ c.copy-2.ensures c.copied-fault.ensures
    (c.at_rest-engine.ensures ∙ ap (λ (p : PlantParts). come_to p (bench.rest p)) (c.copy.ensures ∙ c.plant.ensures.plant))
    c.new.result c.new.ensures.stands c.new.ensures.engine
