use Rattle.eg_model.specs.Engines.{bench_of}
use Rattle.eg_laws.proofs.PathLaws.{records_follow_latches, records_test_paths}
use Rattle.eg_laws.proofs.paths.records_tell_paths.Goals as goal

pub returns : goal.returns
returns c = record {
  driven = λ engine. records_follow_latches (bench_of engine);
  tested = λ engine. records_test_paths (bench_of engine);
}
