use Rattle.std.proofs.Common.{◌∙◌, sym, subst, arith}
use Rattle.std.specs.Bool.{IsTrue}
use Rattle.std.proofs.lemmas.Result.{IfOk-from_err}
use Rattle.eg_base.proofs.AppendLemmas.{Rose-earlier}
use Rattle.eg_base.proofs.ResultLemmas.{at_err}
use Rattle.eg_outcome.proofs.ShownLemmas.{begins, goes_on, stops, ends}
use Rattle.eg_outcome.proofs.shown.put_name.Goals as goal

pub loop-i-init : goal.loop-i-init
loop-i-init g c = begins (g.N.Sink.shows c.args.notes.now) c.args.name.now

pub returns-in_err-put_byte : goal.returns-in_err-put_byte
returns-in_err-put_byte g c =
    let shows = g.N.Sink.shows in
    let has = c.loop-i.invariant in
    let puts = c.in_err-put_byte.ensures in
    let counted = has.count in
    let count = puts.count in
    record {
      whole = IfOk-from_err c.from_residual.result _ c.from_residual.ensures.0;
      front = at_err c.from_residual.result
          (stops (shows c.args.notes.now) (shows c.loop-i.notes) (shows c.put_byte.new.notes) _ _ _ _
          c.loop-i-test.true c.behind.ensures has puts.front);
      count = omega (arith, counted, count);
      stays_sure = puts.stays_sure ∙ has.sure;
      fault = at_err c.from_residual.result (λ sure.
          Rose-earlier _ _ _ has.count (puts.fault (subst IsTrue (sym has.sure) sure)));
    }

pub loop-i-preserved : goal.loop-i-preserved
loop-i-preserved g c =
    let shows = g.N.Sink.shows in
    let puts = c.in_ok-put_byte.ensures in
    goes_on (shows c.args.notes.now) (shows c.loop-i.notes) (shows c.put_byte.new.notes) _ _ _ _ c.loop-i-test.true
    c.behind.ensures c.loop-i.invariant puts.whole puts.count puts.stays_sure

pub returns : goal.returns
returns g c =
    let has = c.loop-i.invariant in record {
      whole = ends (g.N.Sink.shows c.args.notes.now) (g.N.Sink.shows c.loop-i.notes) _ _ _ c.loop-i-test.false has;
      front = tt;
      count = has.count;
      stays_sure = has.sure;
      fault = tt;
    }
