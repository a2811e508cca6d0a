use Rattle.std.proofs.Common.{ap, subst, sym, false}
use Rattle.eg_record.specs.declared.run_facts.RunFacts.{RunFacts}
use Rattle.std.specs.Option.{option_copied}
use Rattle.eg_answer.specs.Times.{reaction_of}
use Rattle.eg_model.specs.Engines.{gasoline}
use Rattle.eg_model.specs.Bench.{Run}
use Rattle.eg_model.proofs.GasolineLaws.{gasoline_keeps, gasoline_shows_one_load}
use Rattle.eg_tick.specs.Run.{run_by}
use Rattle.eg_tick.specs.Facts.{record_facts, FactsReactWithin, FactsReactAtOnce, GoOffOnce}
use Rattle.eg_tick.proofs.FactLaws.{is_run, facts_react, facts_react_at_once, facts_go_off_once}
use Rattle.eg_soak.proofs.run.run_facts.Goals as goal

pub returns-clause-facts : goal.returns-clause-facts
unfolding record_facts
returns-clause-facts c = ap (λ (t : RunFacts). t.facts) c.bench_facts-told.ensures.told.is

pub returns-clause-reacts : goal.returns-clause-reacts
returns-clause-reacts c = λ listed reset_free.
    let r : Run = run_by c.args.calibration.now c.args.image.now (option_copied c.args.fault) c.args.plan.now c.args.drive.now in
    let told = c.bench_facts-told.ensures.told in
    subst (FactsReactWithin (reaction_of r.setting.cal.times)) (sym (ap (λ (t : RunFacts). t.facts) told.is))
    (facts_react gasoline_keeps r (is_run false gasoline r _ c.rules-rules.ensures.accepted told) reset_free c.requires.some listed)

pub returns-clause-at_once : goal.returns-clause-at_once
returns-clause-at_once c = λ listed reset_free.
    let r : Run = run_by c.args.calibration.now c.args.image.now (option_copied c.args.fault) c.args.plan.now c.args.drive.now in
    let told = c.bench_facts-told.ensures.told in
    subst (FactsReactAtOnce r.setting.fault) (sym (ap (λ (t : RunFacts). t.facts) told.is))
    (facts_react_at_once gasoline_keeps r (is_run false gasoline r _ c.rules-rules.ensures.accepted told) reset_free c.requires.some listed)

pub returns-clause-once : goal.returns-clause-once
returns-clause-once c = λ none reset_free.
    let r : Run = run_by c.args.calibration.now c.args.image.now (option_copied c.args.fault) c.args.plan.now c.args.drive.now in
    let told = c.bench_facts-told.ensures.told in
    subst GoOffOnce (sym (ap (λ (t : RunFacts). t.facts) told.is))
    (facts_go_off_once gasoline_keeps r (is_run false gasoline r _ c.rules-rules.ensures.accepted told) reset_free c.requires.some gasoline_shows_one_load none)
