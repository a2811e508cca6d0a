use Rattle.eg_runs.proofs.WorkedShortImages.{flipped_probe}
use Rattle.eg_runs.proofs.short_faulty_runs.flip_seen_by_level_1.Goals as goal

pub returns : goal.returns
returns c = flipped_probe
