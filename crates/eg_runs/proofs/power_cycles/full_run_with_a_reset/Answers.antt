use Rattle.eg_runs.proofs.WorkedCycles.{full_run_with_a_reset-report, full_run_with_a_reset-stages, full_run_with_a_reset-found}
use Rattle.eg_runs.proofs.power_cycles.full_run_with_a_reset.Goals as goal

pub returns-clause-report : goal.returns-clause-report
returns-clause-report c = full_run_with_a_reset-report

pub returns-clause-stages : goal.returns-clause-stages
returns-clause-stages c = full_run_with_a_reset-stages

pub returns-clause-found : goal.returns-clause-found
returns-clause-found c = full_run_with_a_reset-found
