use Rattle.std.proofs.Common.{ℕ, ◌<◌, ◌≤◌}
use Rattle.eg_torque.specs.Permit.{FallsAt}
use Rattle.eg_torque.proofs.permit.Permit.new.Given as goal

abbrev pub invariant-loop-i : goal.invariant-loop-i
invariant-loop-i l = record { later : 1 ≤ l.i; none : (k : ℕ) → k < l.i → ¬ FallsAt l.table k }
