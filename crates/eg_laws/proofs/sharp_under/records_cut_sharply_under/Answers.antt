use Rattle.eg_laws.proofs.KindLaws.{keeps_of, shows_one_load_of}
use Rattle.eg_laws.proofs.SharpUnderLaws.{records_cut_sharply_under}
use Rattle.eg_laws.proofs.sharp_under.records_cut_sharply_under.Goals as goal

pub returns : goal.returns
returns c = λ engine. records_cut_sharply_under (keeps_of engine) (shows_one_load_of engine)
