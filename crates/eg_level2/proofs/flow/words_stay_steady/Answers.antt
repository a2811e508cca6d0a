use Rattle.eg_level2.proofs.SteadyLemmas.{steady_stays}
use Rattle.eg_level2.proofs.flow.words_stay_steady.Goals as goal

pub returns-clause-stays : goal.returns-clause-stays
returns-clause-stays c = steady_stays
