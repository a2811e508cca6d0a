use Rattle.eg_runs.proofs.WorkedHidden.{seldom-hidden, seldom-shown}
use Rattle.eg_runs.proofs.hidden_runs.pair_that_is_seldom_apart.Goals as goal

pub returns-clause-hidden : goal.returns-clause-hidden
returns-clause-hidden c = seldom-hidden

pub returns-clause-shown : goal.returns-clause-shown
returns-clause-shown c = seldom-shown
