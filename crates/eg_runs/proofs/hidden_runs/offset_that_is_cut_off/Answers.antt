use Rattle.eg_runs.proofs.WorkedHidden.{cut_off-hidden, cut_off-shown}
use Rattle.eg_runs.proofs.hidden_runs.offset_that_is_cut_off.Goals as goal

pub returns-clause-hidden : goal.returns-clause-hidden
returns-clause-hidden c = cut_off-hidden

pub returns-clause-shown : goal.returns-clause-shown
returns-clause-shown c = cut_off-shown
