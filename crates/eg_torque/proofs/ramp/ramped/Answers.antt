use Rattle.std.proofs.Common.{rules}
use Rattle.eg_torque.specs.Ramp.{ramped}
use Rattle.eg_torque.proofs.ramp.ramped.Goals as goal

pub returns : goal.returns
unfolding ramped
returns c = search rules
