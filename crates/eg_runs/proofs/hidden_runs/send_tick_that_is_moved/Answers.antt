use Rattle.eg_runs.proofs.WorkedHidden.{moved-hidden}
use Rattle.eg_runs.proofs.hidden_runs.send_tick_that_is_moved.Goals as goal

pub returns : goal.returns
returns c = moved-hidden
