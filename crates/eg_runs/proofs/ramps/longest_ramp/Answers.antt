use Rattle.eg_runs.proofs.WorkedRamps.{steepest-ticks, steepest-above}
use Rattle.eg_runs.proofs.ramps.longest_ramp.Goals as goal

pub returns : goal.returns
returns c = record { ticks = steepest-ticks; above = steepest-above }
