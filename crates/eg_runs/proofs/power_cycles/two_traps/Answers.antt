use Rattle.eg_runs.proofs.WorkedCycles.{two_traps-report, two_traps-traps}
use Rattle.eg_runs.proofs.power_cycles.two_traps.Goals as goal

pub returns-clause-report : goal.returns-clause-report
returns-clause-report c = two_traps-report

pub returns-clause-traps : goal.returns-clause-traps
returns-clause-traps c = two_traps-traps
