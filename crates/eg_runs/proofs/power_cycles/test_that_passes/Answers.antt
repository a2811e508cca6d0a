use Rattle.eg_runs.proofs.WorkedCycles.{test_that_passes-report, test_that_passes-path1, test_that_passes-path2, test_that_passes-stages, test_that_passes-verdicts, test_that_passes-answers}
use Rattle.eg_runs.proofs.power_cycles.test_that_passes.Goals as goal

pub returns-clause-report : goal.returns-clause-report
returns-clause-report c = test_that_passes-report

pub returns-clause-path1 : goal.returns-clause-path1
returns-clause-path1 c = test_that_passes-path1

pub returns-clause-path2 : goal.returns-clause-path2
returns-clause-path2 c = test_that_passes-path2

pub returns-clause-stages : goal.returns-clause-stages
returns-clause-stages c = test_that_passes-stages

pub returns-clause-verdicts : goal.returns-clause-verdicts
returns-clause-verdicts c = test_that_passes-verdicts

pub returns-clause-answers : goal.returns-clause-answers
returns-clause-answers c = test_that_passes-answers
