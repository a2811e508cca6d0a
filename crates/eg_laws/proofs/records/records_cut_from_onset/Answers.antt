use Rattle.eg_model.specs.Engines.{bench_of}
use Rattle.eg_model.proofs.RecordLaws.{records_cut_from_onset}
use Rattle.eg_laws.proofs.records.records_cut_from_onset.Goals as goal

pub returns : goal.returns
returns c = λ engine. records_cut_from_onset (bench_of engine)
