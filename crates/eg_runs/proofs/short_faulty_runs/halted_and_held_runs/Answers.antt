use Rattle.eg_runs.proofs.WorkedShortFaults.{halted, plate_held, plate_held-charge}
use Rattle.eg_runs.proofs.short_faulty_runs.halted_and_held_runs.Goals as goal

pub returns-clause-halted : goal.returns-clause-halted
returns-clause-halted c = halted

pub returns-clause-held : goal.returns-clause-held
returns-clause-held c = plate_held

pub returns-clause-charge : goal.returns-clause-charge
returns-clause-charge c = plate_held-charge
