use Rattle.eg_laws.proofs.LatentOffsets.{small_offsets_hide}
use Rattle.eg_laws.proofs.latent.small_offsets_stay_hidden.Goals as goal

pub returns : goal.returns
returns c = small_offsets_hide
