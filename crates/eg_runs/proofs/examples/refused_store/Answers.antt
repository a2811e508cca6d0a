use Rattle.eg_runs.proofs.WorkedImages.{store_is_refused, store_changes_nothing}
use Rattle.eg_runs.proofs.examples.refused_store.Goals as goal

pub returns-clause-report : goal.returns-clause-report
returns-clause-report c = store_is_refused

pub returns-clause-rows : goal.returns-clause-rows
returns-clause-rows c = store_changes_nothing
