use Rattle.eg_model.specs.Engines.{bench_of}
use Rattle.eg_laws.proofs.RampLaws.{no_ramp_takes_no_tick, level_ramp_has_no_end, records_leave_ramps, records_come_down_ramps, records_permit_demand}
use Rattle.eg_laws.proofs.ramps.records_leave_ramps.Goals as goal

pub returns : goal.returns
returns c = record {
  ticks = λ engine. records_leave_ramps (bench_of engine);
  falls = λ engine. records_come_down_ramps (bench_of engine);
  none = no_ramp_takes_no_tick;
  demand = λ engine. records_permit_demand (bench_of engine);
  endless = level_ramp_has_no_end;
}
