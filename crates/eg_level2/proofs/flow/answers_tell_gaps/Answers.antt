use Rattle.eg_level2.proofs.SteadyLemmas.{gap_answers}
use Rattle.eg_level2.proofs.flow.answers_tell_gaps.Goals as goal

pub returns-clause-gap : goal.returns-clause-gap
returns-clause-gap c = gap_answers
