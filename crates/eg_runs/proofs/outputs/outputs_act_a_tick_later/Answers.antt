use Rattle.eg_runs.proofs.WorkedOutputs.{first_row, plates-full, plates-late}
use Rattle.eg_runs.proofs.outputs.outputs_act_a_tick_later.Goals as goal

pub returns-clause-first : goal.returns-clause-first
returns-clause-first c = first_row

pub returns-clause-full : goal.returns-clause-full
returns-clause-full c = plates-full

pub returns-clause-late : goal.returns-clause-late
returns-clause-late c = plates-late
