use Rattle.eg_runs.proofs.WorkedFaults.{disturbed, disturbed_after_sending}
use Rattle.eg_runs.proofs.faulty_runs.disturbed_run.Goals as goal

pub returns-clause-before_sending : goal.returns-clause-before_sending
returns-clause-before_sending c = disturbed

pub returns-clause-after_sending : goal.returns-clause-after_sending
returns-clause-after_sending c = disturbed_after_sending
