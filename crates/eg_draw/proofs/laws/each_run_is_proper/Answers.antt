use Rattle.eg_draw.proofs.ProperLemmas.{drawn_proper}
use Rattle.eg_draw.proofs.laws.each_run_is_proper.Goals as goal

pub returns : goal.returns
returns c = drawn_proper
