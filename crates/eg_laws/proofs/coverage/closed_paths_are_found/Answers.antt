use Rattle.eg_model.specs.Engines.{bench_of}
use Rattle.eg_laws.proofs.CoverageRecords.{records_find_closed}
use Rattle.eg_laws.proofs.coverage.closed_paths_are_found.Goals as goal

pub returns : goal.returns
returns c = λ engine. records_find_closed (bench_of engine)
