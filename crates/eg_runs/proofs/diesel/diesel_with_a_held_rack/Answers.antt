use Rattle.eg_runs.proofs.WorkedDiesel.{diesel_with_a_held_rack-racks, diesel_with_a_held_rack-quantities, diesel_with_a_held_rack-torques}
use Rattle.eg_runs.proofs.diesel.diesel_with_a_held_rack.Goals as goal

pub returns-clause-racks : goal.returns-clause-racks
returns-clause-racks c = diesel_with_a_held_rack-racks

pub returns-clause-quantities : goal.returns-clause-quantities
returns-clause-quantities c = diesel_with_a_held_rack-quantities

pub returns-clause-torques : goal.returns-clause-torques
returns-clause-torques c = diesel_with_a_held_rack-torques
