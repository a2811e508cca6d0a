use Rattle.eg_laws.proofs.KindLaws.{keeps_of}
use Rattle.eg_model.proofs.RecordLaws.{records_cut_standing_excess, records_have_short_excess}
use Rattle.eg_laws.proofs.records.records_cut_standing_excess.Goals as goal

pub returns : goal.returns
returns c = record {
  cut = λ engine. records_cut_standing_excess (keeps_of engine);
  short = λ engine. records_have_short_excess (keeps_of engine);
}
