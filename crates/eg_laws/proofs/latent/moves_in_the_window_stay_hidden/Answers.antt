use Rattle.eg_laws.proofs.LatentMoves.{moves_in_window_hide}
use Rattle.eg_laws.proofs.latent.moves_in_the_window_stay_hidden.Goals as goal

pub returns : goal.returns
returns c = moves_in_window_hide
