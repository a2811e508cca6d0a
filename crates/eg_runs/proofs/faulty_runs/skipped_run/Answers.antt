use Rattle.eg_runs.proofs.WorkedFaults.{skipped, skipped-actual}
use Rattle.eg_runs.proofs.faulty_runs.skipped_run.Goals as goal

pub returns-clause-report : goal.returns-clause-report
returns-clause-report c = skipped

pub returns-clause-actual : goal.returns-clause-actual
returns-clause-actual c = skipped-actual
