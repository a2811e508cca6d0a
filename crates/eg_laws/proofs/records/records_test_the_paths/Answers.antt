use Rattle.eg_model.specs.Engines.{bench_of}
use Rattle.eg_model.proofs.RecordLaws.{records_test_unpowered, records_pass_tests}
use Rattle.eg_model.proofs.PowerCycleLaws.{records_begin_in_turn}
use Rattle.eg_laws.proofs.records.records_test_the_paths.Goals as goal

pub returns-clause-cycles : goal.returns-clause-cycles
returns-clause-cycles c = λ engine. records_begin_in_turn (bench_of engine)

pub returns-clause-unpowered : goal.returns-clause-unpowered
returns-clause-unpowered c = λ engine. records_test_unpowered (bench_of engine)

pub returns-clause-passes : goal.returns-clause-passes
returns-clause-passes c = λ engine. records_pass_tests (bench_of engine)
