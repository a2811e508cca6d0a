use Rattle.eg_runs.proofs.WorkedHidden.{skips-hidden, skips-shown}
use Rattle.eg_runs.proofs.hidden_runs.skips_in_short_spans.Goals as goal

pub returns-clause-hidden : goal.returns-clause-hidden
returns-clause-hidden c = skips-hidden

pub returns-clause-shown : goal.returns-clause-shown
returns-clause-shown c = skips-shown
