use Rattle.eg_plant.specs.declared.engine_kind.EngineKind.TheVariants as kind
use Rattle.eg_campaign.proofs.UnderLemmas.{are_told}
use Rattle.eg_campaign.proofs.kinds.facts_under.Goals as goal

pub returns-in-Gasoline : goal.returns-in-Gasoline
returns-in-Gasoline c = are_told c.args.calibration.now c.args.input.now c.args.faults.now kind.Gasoline c.in-Gasoline.is _ _ _ c.requires.group
    c.facts_on.ensures.facts c.facts_on.ensures.counted

pub returns-in-Diesel : goal.returns-in-Diesel
returns-in-Diesel c = are_told c.args.calibration.now c.args.input.now c.args.faults.now kind.Diesel c.in-Diesel.is _ _ _ c.requires.group
    c.facts_on-in-Diesel.ensures.facts c.facts_on-in-Diesel.ensures.counted
