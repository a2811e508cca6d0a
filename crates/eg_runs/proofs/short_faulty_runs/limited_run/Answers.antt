use Rattle.eg_runs.proofs.WorkedShortFaults.{limited, limited-permitted}
use Rattle.eg_runs.proofs.short_faulty_runs.limited_run.Goals as goal

pub returns-clause-found : goal.returns-clause-found
returns-clause-found c = limited

pub returns-clause-permitted : goal.returns-clause-permitted
returns-clause-permitted c = limited-permitted
