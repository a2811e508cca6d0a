use Rattle.std.proofs.Common.{◌∙◌, sym, ap, subst, ◌≤◌, All, length}
use Rattle.eg_fault.specs.Faults.{IsValid}
use Rattle.eg_table.proofs.GridLemmas.{length-swept_faults, small-runs}
use Rattle.eg_table.proofs.ListedLemmas.{swept_valid}
use Rattle.eg_table.proofs.grid.sweep_faults.Goals as goal

pub returns-clause-count : goal.returns-clause-count
returns-clause-count c = ap length c.in_ok-faults.ensures ∙ length-swept_faults c.args.ticks c.args.step

pub returns-clause-few : goal.returns-clause-few
returns-clause-few c = subst (λ n. n ≤ 1000) (sym (ap length c.in_ok-faults.ensures ∙ length-swept_faults c.args.ticks c.args.step))
    (small-runs c.args.ticks c.args.step (sym c.is_too_large.ensures ∙ c.if-is_too_large.false))

pub returns-clause-valid : goal.returns-clause-valid
returns-clause-valid c = subst (All IsValid) (sym c.in_ok-faults.ensures) (swept_valid c.args.ticks c.args.step c.requires.ticks c.requires.step)
