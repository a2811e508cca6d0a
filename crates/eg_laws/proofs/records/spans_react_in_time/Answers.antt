use Rattle.eg_laws.proofs.KindLaws.{keeps_of}
use Rattle.eg_laws.proofs.InTimeLaws.{records_react_in_time}
use Rattle.eg_laws.proofs.records.spans_react_in_time.Goals as goal

pub returns : goal.returns
returns c = λ engine. records_react_in_time (keeps_of engine)
