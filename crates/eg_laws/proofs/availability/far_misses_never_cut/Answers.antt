use Rattle.eg_laws.proofs.AvailabilityLaws.{keeps_path_2, trips_alone_cut, no_trip_comes}
use Rattle.eg_laws.proofs.SilentMisses.{few_misses_keep_path_2}
use Rattle.eg_laws.proofs.SingleMisses.{single_misses_are_spaced}
use Rattle.eg_laws.proofs.availability.far_misses_never_cut.Goals as goal

pub returns : goal.returns
returns c = record { path_2 = keeps_path_2; few = few_misses_keep_path_2; trips = trips_alone_cut; none = no_trip_comes; single = single_misses_are_spaced }
