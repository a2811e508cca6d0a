use Rattle.std.proofs.Common.{sym, subst}
use Rattle.std.specs.Option.{option_copied}
use Rattle.eg_fault.specs.Effects.{Effects}
use Rattle.eg_fault.specs.Faults.{effects}
use Rattle.eg_fault.specs.Running.{all_run, runs_of, IsRunning}
use Rattle.eg_fault.proofs.RunningLemmas.{all_running, class_running}
use Rattle.eg_fault.proofs.effects.module_runs.Goals as goal

pub returns-in_default : goal.returns-in_default
returns-in_default c =
    subst (IsRunning (effects (option_copied c.args.fault) c.args.tick)) (sym c.all.ensures)
    (subst (λ (x : Effects). IsRunning x all_run) (sym c.in_default.ensures) all_running)

pub returns : goal.returns
returns c =
    subst (IsRunning (effects (option_copied c.args.fault) c.args.tick)) (sym c.runs.ensures)
    (subst (λ (x : Effects). IsRunning x (runs_of c.in-Some.class.now c.in-Some.after)) (sym c.in-Some.ensures) (class_running _ _))
