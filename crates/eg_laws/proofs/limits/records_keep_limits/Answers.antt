use Rattle.eg_laws.proofs.LimitLaws.{records_keep_limits}
use Rattle.eg_laws.proofs.limits.records_keep_limits.Goals as goal

pub returns : goal.returns
returns c = records_keep_limits
