use Rattle.eg_model.specs.Engines.{bench_of}
use Rattle.eg_model.proofs.OutputLaws.{spans_disregard_level1, runs_disregard_level1}
use Rattle.eg_laws.proofs.OutputRecords.{records_act_by_outputs, records_follow_outputs}
use Rattle.eg_laws.proofs.outputs.level_1_acts_by_its_outputs.Goals as goal

pub returns-clause-spans : goal.returns-clause-spans
returns-clause-spans c = spans_disregard_level1

pub returns-clause-histories : goal.returns-clause-histories
returns-clause-histories c = runs_disregard_level1

pub returns-clause-records : goal.returns-clause-records
returns-clause-records c = λ engine. records_act_by_outputs (bench_of engine)

pub returns-clause-same : goal.returns-clause-same
returns-clause-same c = λ engine. records_follow_outputs (bench_of engine)
