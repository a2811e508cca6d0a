use Rattle.std.proofs.lemmas.Result.{IfOk-from_err}
use Rattle.eg_tick.proofs.StartLemmas.{begun_new, begun_span}
use Rattle.eg_tick.proofs.span.begin.Goals as goal

pub returns-clause-holds : goal.returns-clause-holds
returns-clause-holds g c kind s h holds =
    let starts = c.start.ensures in
    begun_span s c.args.tests _ _ _ _ starts.begun (begun_new s c.args.tests _ _ _ _ holds.monitor.times holds.monitor.questions
    (c.in_ok-restart.ensures.holds s.image holds.level1.code) starts.begun starts.given starts.next)

pub returns-in_err-restart-clause-holds : goal.returns-in_err-restart-clause-holds
returns-in_err-restart-clause-holds g c kind s h holds = IfOk-from_err c.from_residual.result _ c.from_residual.ensures.0

pub returns-in_err-restart-clause-begun : goal.returns-in_err-restart-clause-begun
returns-in_err-restart-clause-begun g c = IfOk-from_err c.from_residual.result _ c.from_residual.ensures.0

pub returns-in_err-restart-clause-ready : goal.returns-in_err-restart-clause-ready
returns-in_err-restart-clause-ready g c = IfOk-from_err c.from_residual.result _ c.from_residual.ensures.0
