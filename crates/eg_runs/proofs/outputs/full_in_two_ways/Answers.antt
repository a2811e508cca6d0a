use Rattle.eg_runs.proofs.WorkedOutputs.{two_ways}
use Rattle.eg_runs.proofs.outputs.full_in_two_ways.Goals as goal

pub returns : goal.returns
returns c = two_ways
