use Rattle.eg_laws.proofs.ShortStretches.{stretches_are_shorter, none_stands_so_long}
use Rattle.eg_laws.proofs.LeastLapseLaw.{excess_lasts_so_long, lapse_bound_is_least}
use Rattle.eg_laws.proofs.least_lapse.lapse_bound_is_least.Goals as goal

pub returns : goal.returns
returns c = record {
  shorter = stretches_are_shorter;
  below = none_stands_so_long;
  lasts = excess_lasts_so_long;
  least = lapse_bound_is_least;
}
