use Rattle.eg_laws.proofs.LeastMissedLaw.{missed_is_listed, missed_excess_lasts, missed_bound_is_least, reference_missed}
use Rattle.eg_laws.proofs.least_missed.missed_bound_is_least.Goals as goal

pub returns : goal.returns
returns c = record {
  listed = missed_is_listed;
  lasts = missed_excess_lasts;
  least = missed_bound_is_least;
  reference = reference_missed;
}
