use Rattle.eg_model.specs.Engines.{bench_of}
use Rattle.eg_laws.proofs.WeightLimitLaws.{records_disregard_torque_limit, records_disregard_pair_limit}
use Rattle.eg_laws.proofs.weight_limits.records_disregard_limits.Goals as goal

pub returns : goal.returns
returns c = record {
  torque = λ engine. records_disregard_torque_limit (bench_of engine);
  pairs = λ engine. records_disregard_pair_limit (bench_of engine);
}
