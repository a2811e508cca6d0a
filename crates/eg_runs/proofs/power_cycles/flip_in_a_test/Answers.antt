use Rattle.eg_runs.proofs.WorkedCycles.{flip_in_a_test-report, flip_in_a_test-path1}
use Rattle.eg_runs.proofs.power_cycles.flip_in_a_test.Goals as goal

pub returns-clause-report : goal.returns-clause-report
returns-clause-report c = flip_in_a_test-report

pub returns-clause-path1 : goal.returns-clause-path1
returns-clause-path1 c = flip_in_a_test-path1
