use Rattle.eg_runs.proofs.WorkedShortImages.{full_throttle, full_throttle-permitted, full_throttle-plate, full_throttle-charge}
use Rattle.eg_runs.proofs.short_runs.full_run.Goals as goal

pub returns-clause-report : goal.returns-clause-report
returns-clause-report c = full_throttle

pub returns-clause-permitted : goal.returns-clause-permitted
returns-clause-permitted c = full_throttle-permitted

pub returns-clause-plate : goal.returns-clause-plate
returns-clause-plate c = full_throttle-plate

pub returns-clause-charge : goal.returns-clause-charge
returns-clause-charge c = full_throttle-charge
