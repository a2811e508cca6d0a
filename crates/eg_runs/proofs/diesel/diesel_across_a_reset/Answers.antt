use Rattle.eg_runs.proofs.WorkedDiesel.{diesel_across_a_reset-racks, diesel_across_a_reset-quantities, diesel_across_a_reset-falling}
use Rattle.eg_runs.proofs.diesel.diesel_across_a_reset.Goals as goal

pub returns-clause-racks : goal.returns-clause-racks
returns-clause-racks c = diesel_across_a_reset-racks

pub returns-clause-quantities : goal.returns-clause-quantities
returns-clause-quantities c = diesel_across_a_reset-quantities

pub returns-clause-falling : goal.returns-clause-falling
returns-clause-falling c = diesel_across_a_reset-falling
