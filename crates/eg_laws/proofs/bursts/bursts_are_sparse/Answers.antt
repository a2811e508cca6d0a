use Rattle.eg_laws.proofs.BurstLaws.{bursts_are_sparse, so_many_can_be_bad, fewer_may_do}
use Rattle.eg_laws.proofs.bursts.bursts_are_sparse.Goals as goal

pub returns : goal.returns
returns c = record { sparse = bursts_are_sparse; reached = so_many_can_be_bad; fewer = fewer_may_do }
