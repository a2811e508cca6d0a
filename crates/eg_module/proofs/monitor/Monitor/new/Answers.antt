use Rattle.eg_module.proofs.VerdictLemmas.{counted-none, period_of-zero}
use Rattle.std.proofs.Common.{◌∙◌, refl, sym}
use Rattle.eg_module.proofs.monitor.Monitor.new.Goals as goal

pub returns-clause-given : goal.returns-clause-given
returns-clause-given c = record { count = refl; counter = c.new-2.ensures ∙ counted-none c.args.times.weights }

pub returns-clause-next : goal.returns-clause-next
returns-clause-next c = sym (period_of-zero c.args.times)
