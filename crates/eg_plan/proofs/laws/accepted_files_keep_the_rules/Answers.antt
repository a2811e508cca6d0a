use Rattle.eg_plan.proofs.RuleLemmas.{accepted_law, runs_law}
use Rattle.eg_plan.proofs.TickLemmas.{no_ticks}
use Rattle.eg_plan.proofs.laws.accepted_files_keep_the_rules.Goals as goal

pub returns-clause-accepted : goal.returns-clause-accepted
returns-clause-accepted c = accepted_law

pub returns-clause-runs : goal.returns-clause-runs
returns-clause-runs c = runs_law

pub returns-clause-ticks : goal.returns-clause-ticks
returns-clause-ticks c = no_ticks
