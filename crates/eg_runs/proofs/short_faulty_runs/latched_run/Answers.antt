use Rattle.eg_runs.proofs.WorkedShortFaults.{open_without_react}
use Rattle.eg_runs.proofs.short_faulty_runs.latched_run.Goals as goal

pub returns : goal.returns
returns c = open_without_react
