use Rattle.eg_runs.proofs.WorkedCycles.{faults_go_on-script, faults_go_on-moved, faults_go_on-left_out, faults_go_on-skipped}
use Rattle.eg_runs.proofs.power_cycles.faults_go_on.Goals as goal

pub returns-clause-script : goal.returns-clause-script
returns-clause-script c = faults_go_on-script

pub returns-clause-moved : goal.returns-clause-moved
returns-clause-moved c = faults_go_on-moved

pub returns-clause-left_out : goal.returns-clause-left_out
returns-clause-left_out c = faults_go_on-left_out

pub returns-clause-skipped : goal.returns-clause-skipped
returns-clause-skipped c = faults_go_on-skipped
