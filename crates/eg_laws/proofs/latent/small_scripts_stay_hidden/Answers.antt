use Rattle.eg_laws.proofs.LatentOffsets.{small_scripts_hide}
use Rattle.eg_laws.proofs.latent.small_scripts_stay_hidden.Goals as goal

pub returns : goal.returns
returns c = small_scripts_hide
