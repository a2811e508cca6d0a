use Rattle.eg_runs.proofs.WorkedUnusual.{two-answers, two-verdicts}
use Rattle.eg_runs.proofs.unusual_runs.two_answers_run.Goals as goal

pub returns-clause-answers : goal.returns-clause-answers
returns-clause-answers c = two-answers

pub returns-clause-verdicts : goal.returns-clause-verdicts
returns-clause-verdicts c = two-verdicts
