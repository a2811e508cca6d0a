use Rattle.eg_laws.proofs.Worked.{longest-bound, longest-excess, longest-stages}
use Rattle.eg_laws.proofs.least_lapse.longest_excess_run.Goals as goal

pub returns-clause-bound : goal.returns-clause-bound
returns-clause-bound c = longest-bound

pub returns-clause-stages : goal.returns-clause-stages
returns-clause-stages c = longest-stages

pub returns-clause-excess : goal.returns-clause-excess
returns-clause-excess c = longest-excess
