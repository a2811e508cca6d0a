use Rattle.eg_record.proofs.LawLemmas.{detection_law}
use Rattle.eg_record.proofs.detection.detections_are_first.Goals as goal

pub returns : goal.returns
returns c = detection_law
