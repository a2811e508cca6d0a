use Rattle.eg_laws.proofs.KindLaws.{keeps_of, shows_one_load_of}
use Rattle.eg_model.proofs.RecordLaws.{records_cut_sharply, records_cut_sharply_before}
use Rattle.eg_laws.proofs.records.records_cut_sharply.Goals as goal

pub returns-clause-rows : goal.returns-clause-rows
returns-clause-rows c = λ engine. records_cut_sharply (keeps_of engine) (shows_one_load_of engine)

pub returns-clause-before : goal.returns-clause-before
returns-clause-before c = λ engine. records_cut_sharply_before (keeps_of engine) (shows_one_load_of engine)
