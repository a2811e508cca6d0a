use Rattle.eg_runs.proofs.WorkedFacts.{facts_tick_by_tick-closed_path, facts_tick_by_tick-reset}
use Rattle.eg_runs.proofs.facts.facts_tick_by_tick.Goals as goal

pub returns-clause-closed_path : goal.returns-clause-closed_path
returns-clause-closed_path c = facts_tick_by_tick-closed_path

pub returns-clause-reset : goal.returns-clause-reset
returns-clause-reset c = facts_tick_by_tick-reset
