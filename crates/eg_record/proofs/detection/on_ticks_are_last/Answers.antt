use Rattle.eg_record.proofs.LastOnLemmas.{last_on_law}
use Rattle.eg_record.proofs.detection.on_ticks_are_last.Goals as goal

pub returns : goal.returns
returns c = last_on_law
