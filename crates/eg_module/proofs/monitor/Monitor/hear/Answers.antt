use Rattle.std.proofs.Common.{lt_of_lt_of_le, ◌≡◌, ◌<◌, sym, ap, ◌∙◌, subst, arith, List, length}
use Rattle.std.specs.Prelude.{All}
use Rattle.eg_answer.specs.Periods.{HeardAnswer, period_of}
use Rattle.eg_module.specs.Monitoring.{MonitorParts, IsMonitor}
use Rattle.eg_module.specs.Inside.{parts_of, newest_first}
use Rattle.eg_module.proofs.HeardLemmas.{room, newest_first-push, length-newest_first, IsMonitor-hear}
use Rattle.eg_module.proofs.monitor.Monitor.hear.Goals as goal

pub push-requires : goal.push-requires
push-requires c =
    let keeps = subst IsMonitor c.self.view_is c.self.invariant.keeps in
    let fewer : length (newest_first c.self.inside.heard.items) < 100 = subst (λ (m : MonitorParts). length m.heard < 100) (sym c.self.view_is)
    (lt_of_lt_of_le (room c.args.self.now c.args.tick keeps c.requires.this_period c.requires.later) keeps.times.longest) in
    let same = length-newest_first c.self.inside.heard.items in
    omega arith

pub returns-clause-room : goal.returns-clause-room
returns-clause-room c =
    let fewer : length (newest_first c.self.inside.heard.items) < c.self.inside.times.period = subst (λ (m : MonitorParts). length m.heard < m.times.period) (sym c.self.view_is)
    (room c.args.self.now c.args.tick (subst IsMonitor c.self.view_is c.self.invariant.keeps) c.requires.this_period c.requires.later) in
    let more = ap length (ap newest_first c.push.ensures.items ∙ newest_first-push c.self.inside.heard.items _) in
    omega (arith, fewer, more)

pub returns-clause-keeps : goal.returns-clause-keeps
returns-clause-keeps c =
    subst (λ (heard : List HeardAnswer). IsMonitor (record (parts_of c.self.inside) { heard = heard }))
    (sym (ap newest_first c.push.ensures.items ∙ newest_first-push c.self.inside.heard.items _))
    (IsMonitor-hear (parts_of c.self.inside) c.args.tick c.args.answer c.self.invariant.keeps
    (subst (λ (m : MonitorParts). m.verdicts ≡ period_of m.times c.args.tick) (sym c.self.view_is) c.requires.this_period)
    (subst (λ (m : MonitorParts). All (λ answer. answer.tick < c.args.tick) m.heard) (sym c.self.view_is) c.requires.later))

pub invariant_of-self : goal.invariant_of-self
invariant_of-self c = record { keeps = returns-clause-keeps c; question = c.self.invariant.question }
