use Rattle.std.proofs.Common.{rules, ◌≡◌, ◌+◌, sym, ap, ap₂, ◌∙◌, subst}
use Rattle.eg_answer.specs.Periods.{verdict_over, period_of, with_verdict}
use Rattle.eg_num.specs.Counting.{fed}
use Rattle.eg_module.specs.Monitoring.{MonitorParts, HasGiven, expected_at}
use Rattle.eg_module.specs.Inside.{parts_of}
use Rattle.eg_module.proofs.VerdictLemmas.{HasGiven-close, verdict_over-right, period_of-last, period_of-other, verdicts_fit}
use Rattle.eg_module.proofs.monitor.Monitor.close.Goals as goal

pub returns-then-not-is_last-clause-given : goal.returns-then-not-is_last-clause-given
unfolding with_verdict
returns-then-not-is_last-clause-given c = λ verdicts given. given

pub returns-then-not-is_last-clause-next : goal.returns-then-not-is_last-clause-next
returns-then-not-is_last-clause-next c =
    c.requires ∙ subst (λ (m : MonitorParts). period_of m.times c.args.tick ≡ period_of m.times (c.args.tick + 1)) c.self.view_is
    (sym (period_of-other c.self.inside.times c.args.tick c.self.invariant.keeps.times (sym c.is_last.ensures ∙ c.if-not-is_last.true)))

pub overflow_add-self : goal.overflow_add-self
overflow_add-self c = record {
  fits = verdicts_fit (parts_of c.self.inside) c.args.tick c.self.invariant.keeps
      (subst (λ (m : MonitorParts). m.verdicts ≡ period_of m.times c.args.tick) (sym c.self.view_is) c.requires) c.ranges.tick.fits;
}

pub returns-clause-right : goal.returns-clause-right
returns-clause-right c =
    let law = verdict_over-right c.args.self.now.times (expected_at c.args.self.now c.args.tick) c.args.self.now.heard in
    let is : c.judge-verdict.result ≡ verdict_over c.args.self.now.times (expected_at c.args.self.now c.args.tick) c.args.self.now.heard = search rules in
    (λ right. law.0 (sym is ∙ right), λ answered. is ∙ law.1 answered)

pub returns-clause-given : goal.returns-clause-given
unfolding with_verdict
returns-clause-given c = λ verdicts given.
    let closed = HasGiven-close (parts_of c.self.inside) c.judge-verdict.result verdicts c.self.invariant.keeps.weights.3
    (subst (λ (m : MonitorParts). HasGiven m verdicts) (sym c.self.view_is) given) in
    record {
      count = closed.count;
      counter = c.feed.ensures.value ∙ ap₂ (λ w bad. fed w c.self.inside.counter.value bad) c.weights.ensures.weights c.is_bad.ensures ∙ closed.counter;
    }

pub returns-clause-next : goal.returns-clause-next
returns-clause-next c =
    ap (λ n. n + 1) (subst (λ (m : MonitorParts). m.verdicts ≡ period_of m.times c.args.tick) (sym c.self.view_is) c.requires)
    ∙ sym (period_of-last c.self.inside.times c.args.tick c.self.invariant.keeps.times (sym c.is_last.ensures ∙ c.if-not-is_last.false))
