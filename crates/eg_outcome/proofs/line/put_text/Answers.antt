use Rattle.std.proofs.Common.{◌∙◌, sym, subst, refl}
use Rattle.std.specs.Prelude.{IsTrue}
use Rattle.eg_outcome.proofs.LineLemmas.{HasPutFront-nothing, HasPutFront-more, HasPutFront-refused, HasPutFront-whole, shorter, nothing_left}
use Rattle.eg_outcome.proofs.line.put_text.Goals as goal

pub loop-rest-init : goal.loop-rest-init
loop-rest-init g c = record {
  put = HasPutFront-nothing c.args.text.now c.args.text.now (g.K.Sink.shows c.args.out.now) refl;
  sure = refl;
}

pub loop-rest-smaller : goal.loop-rest-smaller
loop-rest-smaller g c = shorter c.loop-rest.rest.now c.split_line.result.0.now c.split_line.result.1.now c.split_line.ensures.parts c.split_line.ensures.some

pub loop-rest-preserved : goal.loop-rest-preserved
loop-rest-preserved g c =
    let shows = g.K.Sink.shows in
    record {
      put = HasPutFront-more c.args.text.now c.loop-rest.rest.now c.split_line.result.0.now c.split_line.result.1.now
          (shows c.args.out.now) (shows c.loop-rest.out) (shows c.put_line.new.out) c.loop-rest.invariant.put c.split_line.ensures.parts c.in-Done.ensures.ends;
      sure = c.put_line.ensures.stays_sure ∙ c.loop-rest.invariant.sure;
    }

pub returns-in_default : goal.returns-in_default
returns-in_default g c =
    let shows = g.K.Sink.shows in
    record {
      ends = HasPutFront-refused c.args.text.now c.loop-rest.rest.now c.split_line.result.0.now c.split_line.result.1.now
          (shows c.args.out.now) (shows c.loop-rest.out) (shows c.put_line.new.out) c.put_line.result
          c.loop-rest.invariant.put c.split_line.ensures.parts c.in_default.not-Done c.put_line.ensures.ends;
      put = c.put_line.ensures.put;
      sure = λ is. c.put_line.ensures.sure (subst IsTrue (sym c.loop-rest.invariant.sure) is);
      stays_sure = c.put_line.ensures.stays_sure ∙ c.loop-rest.invariant.sure;
    }

pub returns : goal.returns
returns g c =
    let shows = g.K.Sink.shows in
    record {
      ends = HasPutFront-whole c.args.text.now c.loop-rest.rest.now (shows c.args.out.now) (shows c.loop-rest.out)
          c.loop-rest.invariant.put (nothing_left c.loop-rest.rest.now _ c.is_empty.ensures c.loop-rest-test.false);
      put = λ never. never;
      sure = λ is same. absurd cc;
      stays_sure = c.loop-rest.invariant.sure;
    }
