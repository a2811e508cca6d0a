use Rattle.eg_runs.proofs.WorkedCycles.{excess_over_two_cycles-excess, excess_over_two_cycles-report}
use Rattle.eg_runs.proofs.power_cycles.excess_over_two_cycles.Goals as goal

pub returns-clause-excess : goal.returns-clause-excess
returns-clause-excess c = excess_over_two_cycles-excess

pub returns-clause-report : goal.returns-clause-report
returns-clause-report c = excess_over_two_cycles-report
