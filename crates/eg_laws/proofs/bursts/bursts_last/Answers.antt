use Rattle.eg_laws.proofs.BurstRuns.{bursts_last, bursts_last_until_confirmed}
use Rattle.eg_laws.proofs.bursts.bursts_last.Goals as goal

pub returns : goal.returns
returns c = record { lasts = bursts_last; until_confirmed = bursts_last_until_confirmed }
