use Rattle.eg_laws.proofs.KindLaws.{keeps_of, shows_one_load_of}
use Rattle.eg_laws.proofs.FindingRecords.{records_find_sharply}
use Rattle.eg_laws.proofs.findings.records_find_sharply.Goals as goal

pub returns : goal.returns
returns c = λ engine. records_find_sharply (keeps_of engine) (shows_one_load_of engine)
