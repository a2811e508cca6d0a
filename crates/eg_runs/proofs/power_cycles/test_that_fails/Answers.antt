use Rattle.eg_runs.proofs.WorkedCycles.{test_that_fails}
use Rattle.eg_runs.proofs.power_cycles.test_that_fails.Goals as goal

pub returns : goal.returns
returns c = test_that_fails
