use Rattle.eg_model.specs.Engines.{bench_of}
use Rattle.eg_laws.proofs.KindLaws.{keeps_of}
use Rattle.eg_laws.proofs.ShowingLaws.{records_show_runs}
use Rattle.eg_model.proofs.RecordTicks.{records_are_histories, records_are_rows}
use Rattle.eg_laws.proofs.records.records_are_histories.Goals as goal

pub returns-clause-histories : goal.returns-clause-histories
returns-clause-histories c = λ engine. records_are_histories (bench_of engine)

pub returns-clause-rows : goal.returns-clause-rows
returns-clause-rows c = λ engine. records_are_rows (bench_of engine)

pub returns-clause-shown : goal.returns-clause-shown
returns-clause-shown c = λ engine. records_show_runs (keeps_of engine)
