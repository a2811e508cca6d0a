use Rattle.eg_runs.proofs.WorkedFaults.{flipped}
use Rattle.eg_runs.proofs.faulty_runs.flipped_run.Goals as goal

pub returns : goal.returns
returns c = flipped
