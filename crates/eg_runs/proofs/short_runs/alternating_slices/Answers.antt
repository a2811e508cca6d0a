use Rattle.eg_runs.proofs.WorkedShortImages.{alternated}
use Rattle.eg_runs.proofs.short_runs.alternating_slices.Goals as goal

pub returns : goal.returns
returns c = alternated
