use Rattle.eg_cal.proofs.RuleLemmas.{accepted_law}
use Rattle.eg_cal.proofs.laws.accepted_files_keep_the_rules.Goals as goal

pub returns : goal.returns
returns c = accepted_law
