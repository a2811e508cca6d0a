use Rattle.std.proofs.Common.{rules, ◌≡◌, None, subst}
use Rattle.std.specs.Option.{option_copied}
use Rattle.eg_fault.specs.Faults.{effects}
use Rattle.eg_fault.specs.Running.{beyond_levels, ElseAlike}
use Rattle.eg_fault.proofs.RunningLemmas.{alike-beyond_levels}
use Rattle.eg_fault.proofs.effects.fault_beyond_levels.Goals as goal

pub returns-then-tick-found-clause-same : goal.returns-then-tick-found-clause-same
unfolding beyond_levels
returns-then-tick-found-clause-same c =
    let none : beyond_levels (option_copied c.args.fault) c.args.tick ≡ None = search rules in
    subst (λ found. ElseAlike (effects found c.args.tick) (effects (option_copied c.args.fault) c.args.tick)) none (alike-beyond_levels (option_copied c.args.fault) c.args.tick)
