use Rattle.std.proofs.Common.{subst, rules}
use Rattle.eg_num.specs.Interpolation.{Grid, IsGrid}
use Rattle.eg_torque.specs.Permit.{DoesNotFall, permitted}
use Rattle.eg_torque.proofs.PermitLemmas.{permitted-rises}
use Rattle.eg_torque.proofs.permit.Permit.at.Goals as goal

pub returns-clause-value : goal.returns-clause-value
unfolding permitted
returns-clause-value c = search rules

pub returns-clause-rises : goal.returns-clause-rises
returns-clause-rises c = λ p q r s h k.
    let Kept : Grid → Type 0 = λ g. IsGrid g × DoesNotFall g in
    let kept = subst Kept c.self.view_is c.self.invariant in
    permitted-rises c.args.self.now kept.0 kept.1 p q c.args.speed_a c.args.speed_b r s h k
