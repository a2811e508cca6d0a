use Rattle.std.proofs.Common.{◌≡◌, ◌∙◌, refl, sym, ap, subst, false}
use Rattle.std.specs.Prelude.{Ok}
use Rattle.std.specs.Option.{option_copied}
use Rattle.eg_fault.specs.Effects.{no_effects}
use Rattle.eg_fault.specs.Faults.{effects, IsNoneOrValid}
use Rattle.eg_fault.proofs.RunningLemmas.{stops_both, valid-of_levels}
use Rattle.eg_turns.proofs.StoppedLemmas.{stopped_tick}
use Rattle.eg_turns.proofs.levels.run_levels.Goals as goal

pub run_turns-requires-clause-level1 : goal.run_turns-requires-clause-level1
unfolding effects no_effects
run_turns-requires-clause-level1 g c = refl

pub run_faulty_turns-requires-clause-fault : goal.run_faulty_turns-requires-clause-fault
run_faulty_turns-requires-clause-fault g c =
    subst IsNoneOrValid (sym c.fault_of_levels-fault.ensures.fault) (valid-of_levels _ c.args.task.now.tick c.requires.fault)

pub returns-then-not-level1_runs : goal.returns-then-not-level1_runs
returns-then-not-level1_runs g c =
    let still : (effects (option_copied c.args.fault) c.args.task.now.tick).level1 ≡ false =
    sym c.fault_of_levels-fault.ensures.same.level1 ∙ sym c.level1_runs.ensures ∙ c.if-not-level1_runs.true in
    stopped_tick _ _ c.args.task.now c.args.level1.now _ still (stops_both _ _ still) c.requires.ready c.requires.prepared (ap Ok c.stopped.ensures.quiet) c.stopped.ensures.nine
