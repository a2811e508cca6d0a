use Rattle.eg_runs.proofs.WorkedImages.{runs_off_the_end}
use Rattle.eg_runs.proofs.examples.empty_image.Goals as goal

pub returns : goal.returns
returns c = runs_off_the_end
