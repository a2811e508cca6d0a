use Rattle.eg_laws.proofs.SeenExcess.{seen_excess_is_cut, seen_excess_is_cut_in_time}
use Rattle.eg_laws.proofs.seeing.seen_excess_is_cut.Goals as goal

pub returns : goal.returns
returns c = record { cut = seen_excess_is_cut; in_time = seen_excess_is_cut_in_time }
