use Rattle.eg_runs.proofs.WorkedUnusual.{stays-actual, stays-charge}
use Rattle.eg_runs.proofs.unusual_runs.signal_that_stays_run.Goals as goal

pub returns-clause-actual : goal.returns-clause-actual
returns-clause-actual c = stays-actual

pub returns-clause-charge : goal.returns-clause-charge
returns-clause-charge c = stays-charge
