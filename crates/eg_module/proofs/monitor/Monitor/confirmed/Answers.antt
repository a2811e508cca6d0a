use Rattle.std.proofs.Common.{ap, ◌∙◌, subst, nat_eq}
use Rattle.std.specs.Prelude.{◌==◌}
use Rattle.eg_num.specs.Windows.{WeightParts}
use Rattle.eg_module.specs.Monitoring.{MonitorParts, IsMonitor}
use Rattle.eg_module.proofs.VerdictLemmas.{HasGiven-confirmed}
use Rattle.eg_module.proofs.monitor.Monitor.confirmed.Goals as goal

pub returns-clause-verdicts : goal.returns-clause-verdicts
returns-clause-verdicts c = λ verdicts given.
    ap (nat_eq c.self.inside.counter.value) (c.limit.ensures.limit ∙ ap (λ (w : WeightParts). w.limit) c.weights.ensures.weights)
    ∙ ap (λ (m : MonitorParts). m.value == m.times.weights.limit) c.self.view_is
    ∙ HasGiven-confirmed c.args.self.now verdicts (subst IsMonitor c.self.view_is c.self.invariant.keeps).weights.3 given
