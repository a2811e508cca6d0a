use Rattle.eg_runs.proofs.WorkedShortFaults.{lapsed, lapsed-answers, lapsed-verdicts}
use Rattle.eg_runs.proofs.short_faulty_runs.lapsed_run.Goals as goal

pub returns-clause-report : goal.returns-clause-report
returns-clause-report c = lapsed

pub returns-clause-answers : goal.returns-clause-answers
returns-clause-answers c = lapsed-answers

pub returns-clause-verdicts : goal.returns-clause-verdicts
returns-clause-verdicts c = lapsed-verdicts
