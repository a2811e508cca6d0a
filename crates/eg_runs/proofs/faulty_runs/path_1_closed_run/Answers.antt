use Rattle.eg_runs.proofs.WorkedFaults.{path_1_closed, path_1_closed-verdicts}
use Rattle.eg_runs.proofs.faulty_runs.path_1_closed_run.Goals as goal

pub returns-clause-report : goal.returns-clause-report
returns-clause-report c = path_1_closed

pub returns-clause-verdicts : goal.returns-clause-verdicts
returns-clause-verdicts c = path_1_closed-verdicts
