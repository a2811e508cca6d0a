use Rattle.std.proofs.Common.{[]}
use Rattle.eg_fault.specs.Faults.{IsNoneOrValid}
use Rattle.eg_campaign.proofs.checkpoints.bench.Goals as goal

pub bench_controller-requires-clause-fault : goal.bench_controller-requires-clause-fault
unfolding IsNoneOrValid
bench_controller-requires-clause-fault g c = tt

pub returns : goal.returns
returns g c = (c.bench_controller.ensures.at [] []).stands.cal
