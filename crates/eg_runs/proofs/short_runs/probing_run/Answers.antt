use Rattle.eg_runs.proofs.WorkedShortImages.{probed-rows}
use Rattle.eg_runs.proofs.short_runs.probing_run.Goals as goal

pub returns : goal.returns
returns c = probed-rows
