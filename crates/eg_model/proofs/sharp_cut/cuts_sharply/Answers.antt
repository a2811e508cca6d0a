use Rattle.eg_model.proofs.SharpCutLaw.{cuts_sharply}
use Rattle.eg_model.proofs.sharp_cut.cuts_sharply.Goals as goal

pub returns : goal.returns
returns c = cuts_sharply
