use Rattle.std.proofs.Common.{◌≡◌, ◌∙◌, sym, ap, subst}
use Rattle.std.specs.Prelude.{is_some}
use Rattle.std.specs.Option.{option_copied}
use Rattle.eg_fault.specs.Faults.{IsNoneOrValid}
use Rattle.eg_tick.specs.Facts.{record_facts}
use Rattle.eg_tick.specs.Run.{run_by}
use Rattle.eg_tick.specs.Counting.{count_with}
use Rattle.eg_model.specs.EngineRuns.{EngineRun, rows_in_time}
use Rattle.eg_soak.specs.Facts.{drawn_facts}
use Rattle.eg_soak.specs.Soak.{on_gasoline, run_drawn}
use Rattle.eg_soak.proofs.FactsLemmas.{any_fault, facts_told}
use Rattle.eg_soak.proofs.facts.play.Goals as goal
use Rattle.eg_soak.proofs.facts.play.Goals.{After-of}

pub run_facts-trap-requires-clause-fault : goal.run_facts-trap-requires-clause-fault
run_facts-trap-requires-clause-fault c =
    subst IsNoneOrValid (sym c.as_ref-fault.ensures.value) (any_fault c.args.drawn.now.fault c.requires.drawn.valid)

-- the run that is played is the one that was drawn
abbrev played : After-of → EngineRun
played c = on_gasoline (run_by c.args.calibration.now c.as_slice-image.result.now (option_copied c.as_ref-fault.result) c.usual_slices-plan.result c.as_slice-drive.result.now)

is_drawn : (c : After-of) → played c ≡ run_drawn c.args.drawn.now
is_drawn c =
    let cal = c.requires.calibration in let image = c.as_slice-image.ensures in let fault = c.as_ref-fault.ensures.value in
    let plan = c.usual_slices-plan.ensures in let drive = c.as_slice-drive.ensures in cc

pub returns-clause-facts : goal.returns-clause-facts
unfolding record_facts
returns-clause-facts c = c.of.ensures
    ∙ facts_told (played c).run _ _ c.run_facts-trap.ensures.facts (c.is_some.ensures ∙ ap is_some c.run_facts-trap.ensures.trap)
    ∙ ap drawn_facts (is_drawn c)

pub returns-clause-counted : goal.returns-clause-counted
unfolding rows_in_time
returns-clause-counted c = c.run_facts-trap.ensures.counted ∙ ap (λ r. count_with c.args.steps.now (rows_in_time r)) (is_drawn c)
