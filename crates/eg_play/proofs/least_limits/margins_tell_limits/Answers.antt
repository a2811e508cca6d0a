use Rattle.eg_model.specs.Engines.{bench_of}
use Rattle.eg_play.proofs.LeastLimitLaws.{records_tell_limits, records_tell_least_limit}
use Rattle.eg_play.proofs.least_limits.margins_tell_limits.Goals as goal

pub returns : goal.returns
returns c = record {
  tells = λ engine. records_tell_limits (bench_of engine);
  least = λ engine. records_tell_least_limit (bench_of engine);
}
