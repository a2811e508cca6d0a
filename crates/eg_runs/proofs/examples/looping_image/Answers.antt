use Rattle.eg_runs.proofs.WorkedImages.{loops}
use Rattle.eg_runs.proofs.examples.looping_image.Goals as goal

pub returns : goal.returns
returns c = loops
