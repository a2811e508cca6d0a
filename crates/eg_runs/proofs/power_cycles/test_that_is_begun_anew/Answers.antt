use Rattle.eg_runs.proofs.WorkedCycles.{test_that_is_begun_anew-report, test_that_is_begun_anew-stages}
use Rattle.eg_runs.proofs.power_cycles.test_that_is_begun_anew.Goals as goal

pub returns-clause-report : goal.returns-clause-report
returns-clause-report c = test_that_is_begun_anew-report

pub returns-clause-stages : goal.returns-clause-stages
returns-clause-stages c = test_that_is_begun_anew-stages
