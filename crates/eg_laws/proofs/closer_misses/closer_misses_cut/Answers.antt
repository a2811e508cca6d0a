use Rattle.eg_laws.proofs.CloserMissesLaw.{closer_misses_cut, spacing_is_least, no_spacing_serves, silent_misses_are_most}
use Rattle.eg_laws.proofs.closer_misses.closer_misses_cut.Goals as goal

pub returns : goal.returns
returns c = record {
  closer = closer_misses_cut;
  least = spacing_is_least;
  none = no_spacing_serves;
  most = silent_misses_are_most;
}
