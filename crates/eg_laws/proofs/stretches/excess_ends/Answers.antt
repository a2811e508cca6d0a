use Rattle.eg_laws.proofs.StretchLaws.{stretches_end, stretches_end_at_once}
use Rattle.eg_laws.proofs.LongestStretch.{excess_lasts, excess_lasts_until_confirmed, stretch_is_least, stretch_at_once_is_least}
use Rattle.eg_laws.proofs.stretches.excess_ends.Goals as goal

pub returns : goal.returns
returns c = record {
  ends = stretches_end;
  at_once = stretches_end_at_once;
  lasts = excess_lasts;
  confirmed = excess_lasts_until_confirmed;
  least = stretch_is_least;
  least_at_once = stretch_at_once_is_least;
}
