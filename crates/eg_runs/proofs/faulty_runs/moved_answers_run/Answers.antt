use Rattle.eg_runs.proofs.WorkedFaults.{late, in_time}
use Rattle.eg_runs.proofs.faulty_runs.moved_answers_run.Goals as goal

pub returns-clause-late : goal.returns-clause-late
returns-clause-late c = late

pub returns-clause-in_time : goal.returns-clause-in_time
returns-clause-in_time c = in_time
