use Rattle.eg_model.specs.Engines.{bench_of}
use Rattle.eg_laws.proofs.CoverageRecords.{records_cut_moved}
use Rattle.eg_laws.proofs.coverage.moved_answers_are_cut.Goals as goal

pub returns : goal.returns
returns c = λ engine. records_cut_moved (bench_of engine)
