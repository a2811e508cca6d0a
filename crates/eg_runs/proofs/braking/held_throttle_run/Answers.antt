use Rattle.eg_runs.proofs.WorkedBraking.{held_throttle_run-cut, held_throttle_run-one_contact, held_throttle_run-without_brake}
use Rattle.eg_runs.proofs.braking.held_throttle_run.Goals as goal

pub returns-clause-cut : goal.returns-clause-cut
returns-clause-cut c = held_throttle_run-cut

pub returns-clause-one_contact : goal.returns-clause-one_contact
returns-clause-one_contact c = held_throttle_run-one_contact

pub returns-clause-without_brake : goal.returns-clause-without_brake
returns-clause-without_brake c = held_throttle_run-without_brake
