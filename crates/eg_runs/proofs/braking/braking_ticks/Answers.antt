use Rattle.eg_runs.proofs.WorkedBraking.{braking_ticks-braked, braking_ticks-one_contact, braking_ticks-falsely, braking_ticks-free, braking_ticks-without_brake}
use Rattle.eg_runs.proofs.braking.braking_ticks.Goals as goal

pub returns-clause-braked : goal.returns-clause-braked
returns-clause-braked c = braking_ticks-braked

pub returns-clause-one_contact : goal.returns-clause-one_contact
returns-clause-one_contact c = braking_ticks-one_contact

pub returns-clause-falsely : goal.returns-clause-falsely
returns-clause-falsely c = braking_ticks-falsely

pub returns-clause-free : goal.returns-clause-free
returns-clause-free c = braking_ticks-free

pub returns-clause-without_brake : goal.returns-clause-without_brake
returns-clause-without_brake c = braking_ticks-without_brake
