use Rattle.eg_runs.proofs.WorkedRuns.{full_throttle-stages, full_throttle-answers, full_throttle-verdicts, full_throttle-found}
use Rattle.eg_runs.proofs.examples.full_run_in_detail.Goals as goal

pub returns-clause-stages : goal.returns-clause-stages
returns-clause-stages c = full_throttle-stages

pub returns-clause-answers : goal.returns-clause-answers
returns-clause-answers c = full_throttle-answers

pub returns-clause-verdicts : goal.returns-clause-verdicts
returns-clause-verdicts c = full_throttle-verdicts

pub returns-clause-found : goal.returns-clause-found
returns-clause-found c = full_throttle-found
