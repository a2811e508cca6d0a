use Rattle.std.proofs.Common.{◌≡◌, ◌∙◌, sym, true, false}
use Rattle.std.specs.Option.{option_copied}
use Rattle.eg_fault.specs.Faults.{effects}
use Rattle.eg_turns.proofs.FrameLemmas.{ready-level2, prepared-level2}
use Rattle.eg_turns.proofs.LevelLemmas.{module_result, step_result, idle_module, idle_step}
use Rattle.eg_turns.proofs.levels.module.Goals as goal

pub returns-then-not-runs-clause-midway : goal.returns-then-not-runs-clause-midway
returns-then-not-runs-clause-midway g c w i m meets plain is =
    let idle : (effects (option_copied c.args.fault) c.args.task.now.tick).ran c.args.number ≡ false = sym (c.runs.ensures _ c.requires.runs) ∙ c.if-not-runs.true in
    idle_module _ _ c.args.task.now w i c.args.number m _ meets plain is idle

pub returns-then-not-runs-clause-step : goal.returns-then-not-runs-clause-step
returns-then-not-runs-clause-step g c w i m meets plain is =
    let idle : (effects (option_copied c.args.fault) c.args.task.now.tick).ran c.args.number ≡ false = sym (c.runs.ensures _ c.requires.runs) ∙ c.if-not-runs.true in
    c.quiet.ensures ∙ idle_step _ _ c.args.task.now w i c.args.number m _ meets plain is idle

pub returns-clause-midway : goal.returns-clause-midway
returns-clause-midway g c w i m meets plain is =
    let runs : (effects (option_copied c.args.fault) c.args.task.now.tick).ran c.args.number ≡ true = sym (c.runs.ensures _ c.requires.runs) ∙ c.if-not-runs.false in
    module_result _ _ c.args.task.now w i c.args.number m _ meets plain is _ (c.disturbance-disturbance.ensures _ c.requires.runs) c.module_with_lookup.result _ runs
    c.module_with_lookup.ensures.are_words c.module_with_lookup.ensures.outside c.module_with_lookup.ensures.mirrored c.module_with_lookup.ensures.words

pub returns-clause-step : goal.returns-clause-step
returns-clause-step g c w i m meets plain is =
    let runs : (effects (option_copied c.args.fault) c.args.task.now.tick).ran c.args.number ≡ true = sym (c.runs.ensures _ c.requires.runs) ∙ c.if-not-runs.false in
    step_result _ _ c.args.task.now w i c.args.number m _ meets plain is _ (c.disturbance-disturbance.ensures _ c.requires.runs) c.module_with_lookup.result runs
    c.module_with_lookup.ensures.answer c.module_with_lookup.ensures.order c.module_with_lookup.ensures.found

pub returns-clause-ready : goal.returns-clause-ready
returns-clause-ready g c program is =
    ready-level2 c.module_with_lookup.result _ program _ _ c.module_with_lookup.ensures.outside (c.module_with_lookup.ensures.are_words is.are_words)
    c.module_with_lookup.ensures.mirrored (c.module_with_lookup.ensures.within (λ are. is.within)) is

pub returns-clause-prepared : goal.returns-clause-prepared
returns-clause-prepared g c = prepared-level2 c.module_with_lookup.result _ c.args.task.now.prepared _ _ c.module_with_lookup.ensures.outside c.requires.prepared
