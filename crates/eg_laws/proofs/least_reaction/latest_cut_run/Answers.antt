use Rattle.eg_laws.proofs.Worked.{latest_confirmed, latest_stages}
use Rattle.eg_laws.proofs.least_reaction.latest_cut_run.Goals as goal

pub returns-clause-confirmed : goal.returns-clause-confirmed
returns-clause-confirmed c = latest_confirmed

pub returns-clause-stages : goal.returns-clause-stages
returns-clause-stages c = latest_stages
