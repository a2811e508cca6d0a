use Rattle.eg_runs.proofs.WorkedImages.{followed, followed-excess, followed-charge}
use Rattle.eg_runs.proofs.examples.following_run.Goals as goal

pub returns-clause-report : goal.returns-clause-report
returns-clause-report c = followed

pub returns-clause-excess : goal.returns-clause-excess
returns-clause-excess c = followed-excess

pub returns-clause-charge : goal.returns-clause-charge
returns-clause-charge c = followed-charge
