use Rattle.eg_runs.proofs.WorkedCycles.{tests_under_faults-opened, tests_under_faults-halted, tests_under_faults-wild, tests_under_faults-skipped}
use Rattle.eg_runs.proofs.power_cycles.tests_under_faults.Goals as goal

pub returns-clause-opened : goal.returns-clause-opened
returns-clause-opened c = tests_under_faults-opened

pub returns-clause-halted : goal.returns-clause-halted
returns-clause-halted c = tests_under_faults-halted

pub returns-clause-wild : goal.returns-clause-wild
returns-clause-wild c = tests_under_faults-wild

pub returns-clause-skipped : goal.returns-clause-skipped
returns-clause-skipped c = tests_under_faults-skipped
