use Rattle.eg_laws.proofs.LeastLaw.{stays_on_so_long, reaction_is_least, needs_can_exceed}
use Rattle.eg_laws.proofs.least_reaction.reaction_is_least.Goals as goal

pub returns-clause-stays_on : goal.returns-clause-stays_on
returns-clause-stays_on c = stays_on_so_long

pub returns-clause-least : goal.returns-clause-least
returns-clause-least c = reaction_is_least

pub returns-clause-needed : goal.returns-clause-needed
returns-clause-needed c = needs_can_exceed
