use Rattle.eg_runs.proofs.WorkedShortImages.{raise_read}
use Rattle.eg_runs.proofs.short_runs.raise_is_read.Goals as goal

pub returns : goal.returns
returns c = raise_read
