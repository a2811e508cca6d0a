use Rattle.std.proofs.Common.{◌≡◌, false, true, refl, arith, below_more}
use Rattle.eg_torque.proofs.PermitLemmas.{does_not_fall}
use Rattle.eg_torque.proofs.permit.Permit.new.Goals as goal

pub loop-i-preserved : goal.loop-i-preserved
loop-i-preserved c = record {
  later = omega arith;
  none = below_more _ _ c.loop-i.invariant.none (λ falls. let e : false ≡ true = c.if-row_falls.ensures.1 falls in cc);
}

pub invariant_of-result : goal.invariant_of-result
invariant_of-result c = (
  c.height-i-end.ensures.grid,
  does_not_fall c.args.table (λ k below. c.loop-i.invariant.none k (omega arith)),
)

pub returns-clause-accepted : goal.returns-clause-accepted
returns-clause-accepted c = (
  λ _. does_not_fall c.args.table (λ k below. c.loop-i.invariant.none k (omega arith)),
  λ _. refl,
)
