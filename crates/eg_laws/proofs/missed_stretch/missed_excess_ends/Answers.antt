use Rattle.eg_laws.proofs.KindLaws.{keeps_of}
use Rattle.eg_laws.proofs.MissedStretchLaws.{missed_stretches_end, records_end_missed_stretches}
use Rattle.eg_laws.proofs.GreatExcess.{great_excess_ends, records_end_great_excess}
use Rattle.eg_laws.proofs.missed_stretch.missed_excess_ends.Goals as goal

pub returns : goal.returns
returns c = record {
  ends = missed_stretches_end;
  records = λ engine. records_end_missed_stretches (keeps_of engine);
  great = great_excess_ends;
  great_records = λ engine. records_end_great_excess (keeps_of engine);
}
