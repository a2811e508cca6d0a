use Rattle.eg_cal.proofs.AnswerLemmas.{answers_law}
use Rattle.eg_cal.proofs.NoAnswerLemmas.{no_answer_law}
use Rattle.eg_cal.proofs.laws.right_answers_are_accepted.Goals as goal

pub returns-clause-accepted : goal.returns-clause-accepted
returns-clause-accepted c = answers_law

pub returns-clause-never_refused : goal.returns-clause-never_refused
returns-clause-never_refused c = no_answer_law
