use Rattle.std.proofs.Common.{rules}
use Rattle.eg_torque.specs.Excess.{is_excess}
use Rattle.eg_torque.proofs.torque.excess.Goals as goal

pub returns : goal.returns
unfolding is_excess
returns c = search rules
