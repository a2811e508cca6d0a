use Rattle.eg_runs.proofs.WorkedShortFaults.{wild, wild-verdicts, wild_opens, wild-unnamed}
use Rattle.eg_runs.proofs.short_faulty_runs.wild_run.Goals as goal

pub returns-clause-report : goal.returns-clause-report
returns-clause-report c = wild

pub returns-clause-verdicts : goal.returns-clause-verdicts
returns-clause-verdicts c = wild-verdicts

pub returns-clause-opens : goal.returns-clause-opens
returns-clause-opens c = wild_opens

pub returns-clause-unnamed : goal.returns-clause-unnamed
returns-clause-unnamed c = wild-unnamed
