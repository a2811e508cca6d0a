use Rattle.eg_model.specs.Engines.{bench_of}
use Rattle.eg_laws.proofs.KindLaws.{keeps_of}
use Rattle.eg_laws.proofs.MissedTickRecords.{records_cut_misses, records_cut_for_good, records_open_on_misses, lapses_keep_missing, never_runs_again}
use Rattle.eg_laws.proofs.missed_ticks.records_cut_misses.Goals as goal

pub returns-clause-misses : goal.returns-clause-misses
returns-clause-misses c = λ engine. records_cut_misses (keeps_of engine)

pub returns-clause-for_good : goal.returns-clause-for_good
returns-clause-for_good c = λ engine. records_cut_for_good (bench_of engine)

pub returns-clause-lapses : goal.returns-clause-lapses
returns-clause-lapses c = lapses_keep_missing

pub returns-clause-never : goal.returns-clause-never
returns-clause-never c = never_runs_again

pub returns-clause-one_verdict : goal.returns-clause-one_verdict
returns-clause-one_verdict c = λ engine. records_open_on_misses (bench_of engine)
