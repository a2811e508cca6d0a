use Rattle.eg_cal.proofs.ReferenceLemmas.{reference_known}
use Rattle.eg_cal.proofs.laws.reference_is_its_file.Goals as goal

pub returns : goal.returns
returns c = reference_known
