use Rattle.eg_runs.proofs.WorkedBraking.{contacts_and_gates-first, contacts_and_gates-second, contacts_and_gates-second_free, contacts_and_gates-second_down, contacts_and_gates-track, contacts_and_gates-bus, contacts_and_gates-bus_free}
use Rattle.eg_runs.proofs.braking.contacts_and_gates.Goals as goal

pub returns-clause-first : goal.returns-clause-first
returns-clause-first c = contacts_and_gates-first

pub returns-clause-second : goal.returns-clause-second
returns-clause-second c = contacts_and_gates-second

pub returns-clause-second_free : goal.returns-clause-second_free
returns-clause-second_free c = contacts_and_gates-second_free

pub returns-clause-second_down : goal.returns-clause-second_down
returns-clause-second_down c = contacts_and_gates-second_down

pub returns-clause-track : goal.returns-clause-track
returns-clause-track c = contacts_and_gates-track

pub returns-clause-bus : goal.returns-clause-bus
returns-clause-bus c = contacts_and_gates-bus

pub returns-clause-bus_free : goal.returns-clause-bus_free
returns-clause-bus_free c = contacts_and_gates-bus_free
