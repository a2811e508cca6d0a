use Rattle.eg_model.proofs.LapseLaw.{cuts_lapses, stretches_are_short}
use Rattle.eg_model.proofs.lapses.standing_excess_is_cut.Goals as goal

pub returns : goal.returns
returns c = record { cut = cuts_lapses; short = stretches_are_short }
