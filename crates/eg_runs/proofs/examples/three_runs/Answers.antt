use Rattle.eg_runs.proofs.WorkedRuns.{three_runs-end}
use Rattle.eg_runs.proofs.examples.three_runs.Goals as goal

pub returns : goal.returns
returns c = three_runs-end
