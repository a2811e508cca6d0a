use Rattle.eg_model.specs.Engines.{bench_of}
use Rattle.eg_laws.proofs.FindingRecords.{records_find_from_onset, records_tell_flips}
use Rattle.eg_laws.proofs.findings.records_find_in_time.Goals as goal

pub returns-clause-onset : goal.returns-clause-onset
returns-clause-onset c = λ engine. records_find_from_onset (bench_of engine)

pub returns-clause-flips : goal.returns-clause-flips
returns-clause-flips c = λ engine. records_tell_flips (bench_of engine)
