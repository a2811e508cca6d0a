use Rattle.eg_torque.proofs.PermitLemmas.{permitted-rises}
use Rattle.eg_torque.proofs.permit.permits_rise.Goals as goal

pub returns : goal.returns
returns c = permitted-rises
