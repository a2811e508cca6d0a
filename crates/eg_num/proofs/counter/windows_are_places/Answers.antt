use Rattle.eg_num.proofs.PlaceLemmas.{place_law}
use Rattle.eg_num.proofs.counter.windows_are_places.Goals as goal

pub returns : goal.returns
returns c = place_law
