use Rattle.eg_runs.proofs.WorkedRamps.{let_go-cut, let_go-uncut}
use Rattle.eg_runs.proofs.ramps.ramp_keeps_the_stages_on.Goals as goal

pub returns : goal.returns
returns c = record { cut = let_go-cut; uncut = let_go-uncut }
