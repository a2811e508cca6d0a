use Rattle.eg_runs.proofs.WorkedShortFaults.{raise-limit, raise-signals}
use Rattle.eg_runs.proofs.short_faulty_runs.disturbed_raise.Goals as goal

pub returns-clause-limit : goal.returns-clause-limit
returns-clause-limit c = raise-limit

pub returns-clause-signals : goal.returns-clause-signals
returns-clause-signals c = raise-signals
