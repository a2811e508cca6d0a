use Rattle.eg_plan.proofs.RuleLemmas.{read-keeps}
use Rattle.eg_plan.proofs.reader.read_campaign.Goals as goal

pub returns-clause-rules : goal.returns-clause-rules
returns-clause-rules c = read-keeps (λ runs. runs.items) _ _ c.campaign_in.ensures
