use Rattle.std.proofs.Common.{rules, ◌≡◌, None, subst}
use Rattle.std.specs.Option.{option_copied}
use Rattle.eg_fault.specs.Faults.{effects}
use Rattle.eg_fault.specs.Running.{of_levels, RunAlike}
use Rattle.eg_fault.proofs.RunningLemmas.{alike-of_levels}
use Rattle.eg_fault.proofs.effects.fault_of_levels.Goals as goal

pub returns-in_err-after-clause-same : goal.returns-in_err-after-clause-same
unfolding of_levels
returns-in_err-after-clause-same c =
    let found : of_levels (option_copied c.args.fault) c.args.tick ≡ option_copied c.from_residual-in_err-after.result = search rules in
    subst (λ found. RunAlike (effects found c.args.tick) (effects (option_copied c.args.fault) c.args.tick)) found (alike-of_levels (option_copied c.args.fault) c.args.tick)

pub returns-then-not-changes_levels-clause-same : goal.returns-then-not-changes_levels-clause-same
unfolding of_levels
returns-then-not-changes_levels-clause-same c =
    let none : of_levels (option_copied c.args.fault) c.args.tick ≡ None = search rules in
    subst (λ found. RunAlike (effects found c.args.tick) (effects (option_copied c.args.fault) c.args.tick)) none (alike-of_levels (option_copied c.args.fault) c.args.tick)
