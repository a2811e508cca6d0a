use Rattle.eg_runs.proofs.WorkedFaults.{raised, raised-stages}
use Rattle.eg_runs.proofs.faulty_runs.reaction_is_met.Goals as goal

pub returns-clause-report : goal.returns-clause-report
returns-clause-report c = raised

pub returns-clause-stages : goal.returns-clause-stages
returns-clause-stages c = raised-stages
