use Rattle.eg_host.proofs.RestLemmas.{rest-trapped}
use Rattle.eg_host.proofs.level1.Level1.run_and_look.Goals as goal

pub invariant_of-self : goal.invariant_of-self
invariant_of-self g c = rest-trapped _ _ _ c.in-Trapped.is
