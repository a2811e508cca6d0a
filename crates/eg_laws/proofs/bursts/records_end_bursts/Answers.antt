use Rattle.eg_laws.proofs.KindLaws.{keeps_of}
use Rattle.eg_laws.proofs.BurstRows.{records_end_bursts, records_end_bursts_at_once}
use Rattle.eg_laws.proofs.bursts.records_end_bursts.Goals as goal

pub returns : goal.returns
returns c = record {
  ends = λ engine. records_end_bursts (keeps_of engine);
  at_once = λ engine. records_end_bursts_at_once (keeps_of engine);
}
