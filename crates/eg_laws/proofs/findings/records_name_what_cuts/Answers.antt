use Rattle.eg_model.specs.Engines.{bench_of}
use Rattle.eg_laws.proofs.FindingRecords.{records_find_before_off, records_find_failures}
use Rattle.eg_laws.proofs.FindingReports.{reports_name_what_cuts}
use Rattle.eg_laws.proofs.findings.records_name_what_cuts.Goals as goal

pub returns-clause-driven : goal.returns-clause-driven
returns-clause-driven c = λ engine. records_find_before_off (bench_of engine)

pub returns-clause-tested : goal.returns-clause-tested
returns-clause-tested c = λ engine. records_find_failures (bench_of engine)

pub returns-clause-reports : goal.returns-clause-reports
returns-clause-reports c = λ engine. reports_name_what_cuts (bench_of engine)
