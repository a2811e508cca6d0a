use Rattle.eg_runs.proofs.WorkedUnusual.{cut-pedal, cut-throttle}
use Rattle.eg_runs.proofs.unusual_runs.reading_that_is_cut_off_run.Goals as goal

pub returns-clause-pedal : goal.returns-clause-pedal
returns-clause-pedal c = cut-pedal

pub returns-clause-throttle : goal.returns-clause-throttle
returns-clause-throttle c = cut-throttle
