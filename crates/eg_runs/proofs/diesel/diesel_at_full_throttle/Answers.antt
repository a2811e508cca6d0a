use Rattle.eg_runs.proofs.WorkedDiesel.{diesel_at_full_throttle-report, diesel_at_full_throttle-racks, diesel_at_full_throttle-quantities, diesel_at_full_throttle-torques}
use Rattle.eg_runs.proofs.diesel.diesel_at_full_throttle.Goals as goal

pub returns-clause-report : goal.returns-clause-report
returns-clause-report c = diesel_at_full_throttle-report

pub returns-clause-racks : goal.returns-clause-racks
returns-clause-racks c = diesel_at_full_throttle-racks

pub returns-clause-quantities : goal.returns-clause-quantities
returns-clause-quantities c = diesel_at_full_throttle-quantities

pub returns-clause-torques : goal.returns-clause-torques
returns-clause-torques c = diesel_at_full_throttle-torques
