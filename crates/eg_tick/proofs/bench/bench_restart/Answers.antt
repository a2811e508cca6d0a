use Rattle.std.proofs.Common.{ap, ◌∙◌, ℕ, Ok}
use Rattle.eg_plant.specs.PlantParts.{PlantParts}
use Rattle.eg_tick.proofs.RunLemmas.{started}
use Rattle.eg_tick.proofs.bench.bench_restart.Goals as goal

pub returns-clause-at : goal.returns-clause-at
returns-clause-at g c =
    let bench = g.E.BenchedEngine.bench in
    let come_to = g.E.BenchedEngine.come_to in
    started {F = ℕ} bench come_to _ _ c.args.image.now _ _ _ c.requires.calibration c.copied.ensures
    (c.at_rest-engine.ensures ∙ ap (λ (p : PlantParts). come_to p (bench.rest p)) (c.copy.ensures ∙ c.plant.ensures.plant))
    (Ok c.restart.new.self) c.restart.ensures.stands c.restart.ensures.engine
