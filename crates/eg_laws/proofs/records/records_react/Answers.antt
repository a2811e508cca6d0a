use Rattle.eg_laws.proofs.KindLaws.{keeps_of}
use Rattle.eg_model.proofs.RecordLaws.{records_react, records_react_at_once}
use Rattle.eg_laws.proofs.records.records_react.Goals as goal

pub returns-clause-in_time : goal.returns-clause-in_time
returns-clause-in_time c = λ engine. records_react (keeps_of engine)

pub returns-clause-at_once : goal.returns-clause-at_once
returns-clause-at_once c = λ engine. records_react_at_once (keeps_of engine)
