use Rattle.eg_record.proofs.LawLemmas.{off_law}
use Rattle.eg_record.proofs.detection.off_ticks_are_first.Goals as goal

pub returns : goal.returns
returns c = off_law
