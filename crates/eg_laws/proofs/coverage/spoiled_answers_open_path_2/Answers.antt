use Rattle.eg_model.specs.Engines.{bench_of}
use Rattle.eg_laws.proofs.CoverageRecords.{records_open_path_2}
use Rattle.eg_laws.proofs.coverage.spoiled_answers_open_path_2.Goals as goal

pub returns : goal.returns
returns c = λ engine. records_open_path_2 (bench_of engine)
