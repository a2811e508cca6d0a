use Rattle.eg_runs.proofs.WorkedFaults.{path_1_closes, path_1_closes-stages}
use Rattle.eg_runs.proofs.faulty_runs.path_1_closes_run.Goals as goal

pub returns-clause-report : goal.returns-clause-report
returns-clause-report c = path_1_closes

pub returns-clause-stages : goal.returns-clause-stages
returns-clause-stages c = path_1_closes-stages
