use Rattle.eg_model.proofs.ReactionLaw.{reacts_in_time_law, reacts_at_once_law}
use Rattle.eg_model.proofs.reaction.reacts_in_time.Goals as goal

pub returns-clause-in_time : goal.returns-clause-in_time
returns-clause-in_time c = reacts_in_time_law

pub returns-clause-at_once : goal.returns-clause-at_once
returns-clause-at_once c = reacts_at_once_law
