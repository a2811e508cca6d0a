use Rattle.eg_laws.proofs.KindLaws.{keeps_of}
use Rattle.eg_laws.proofs.StretchRows.{records_end_stretches, records_end_stretches_at_once}
use Rattle.eg_laws.proofs.stretches.records_end_excess.Goals as goal

pub returns : goal.returns
returns c = record {
  ends = λ engine. records_end_stretches (keeps_of engine);
  at_once = λ engine. records_end_stretches_at_once (keeps_of engine);
}
