use Rattle.eg_runs.proofs.WorkedUnusual.{early, early-answers, early-verdicts}
use Rattle.eg_runs.proofs.unusual_runs.early_answers_run.Goals as goal

pub returns-clause-report : goal.returns-clause-report
returns-clause-report c = early

pub returns-clause-answers : goal.returns-clause-answers
returns-clause-answers c = early-answers

pub returns-clause-verdicts : goal.returns-clause-verdicts
returns-clause-verdicts c = early-verdicts
