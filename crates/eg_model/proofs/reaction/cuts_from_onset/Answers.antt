use Rattle.eg_model.proofs.ReactionLaw.{cuts_from_onset}
use Rattle.eg_model.proofs.reaction.cuts_from_onset.Goals as goal

pub returns : goal.returns
returns c = cuts_from_onset
