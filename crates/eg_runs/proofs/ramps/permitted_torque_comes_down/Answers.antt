use Rattle.eg_runs.proofs.WorkedRamps.{let_go-demand, let_go-limits, let_go-signals}
use Rattle.eg_runs.proofs.ramps.permitted_torque_comes_down.Goals as goal

pub returns : goal.returns
returns c = record { demand = let_go-demand; limits = let_go-limits; signals = let_go-signals }
