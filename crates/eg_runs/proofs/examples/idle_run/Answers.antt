use Rattle.eg_runs.proofs.WorkedRuns.{idle_run, idle-answers, idle-verdicts}
use Rattle.eg_runs.proofs.examples.idle_run.Goals as goal

pub returns-clause-report : goal.returns-clause-report
returns-clause-report c = idle_run

pub returns-clause-answers : goal.returns-clause-answers
returns-clause-answers c = idle-answers

pub returns-clause-verdicts : goal.returns-clause-verdicts
returns-clause-verdicts c = idle-verdicts
