use Rattle.eg_model.specs.Engines.{bench_of}
use Rattle.eg_laws.proofs.CoverageRecords.{records_find_answers}
use Rattle.eg_laws.proofs.coverage.wrong_answers_are_found_exactly.Goals as goal

pub returns : goal.returns
returns c = λ engine. records_find_answers (bench_of engine)
