use Rattle.std.proofs.Common.{ℕ, ◌-◌, ◌<◌}
use Rattle.eg_num.specs.Interpolation.{cell}
use Rattle.eg_torque.proofs.permit.row_falls.Given as goal

abbrev pub invariant-loop-j : goal.invariant-loop-j
invariant-loop-j l = (k : ℕ) → k < l.j → ¬ (cell l.table l.i k < cell l.table (l.i - 1) k)
