use Rattle.std.proofs.Common.{◌∙◌, refl, sym}
use Rattle.eg_module.proofs.VerdictLemmas.{counted-none, period_of-zero}
use Rattle.eg_module.proofs.monitor.Monitor.restart.Goals as goal

pub returns-clause-given : goal.returns-clause-given
returns-clause-given c =
    record { count = refl; counter = c.new-self-inside.ensures ∙ counted-none c.self.inside.times.weights }

pub returns-clause-next : goal.returns-clause-next
returns-clause-next c = sym (period_of-zero c.self.inside.times)
