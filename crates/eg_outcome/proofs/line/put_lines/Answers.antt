use Rattle.std.proofs.Common.{◌∙◌, sym, subst}
use Rattle.std.specs.Prelude.{string_bytes, IsTrue}
use Rattle.eg_outcome.specs.Changes.{change_of}
use Rattle.eg_outcome.specs.Outcomes.{LineEnds}
use Rattle.eg_outcome.specs.declared.outcome.Outcome.TheVariants as outcome
use Rattle.eg_outcome.proofs.LineLemmas.{HasPut-more, HasPut-refused}
use Rattle.eg_outcome.proofs.line.put_lines.Goals as goal

pub returns-in_default : goal.returns-in_default
returns-in_default g c =
    let shows = g.K.Sink.shows in
    record {
      ends = HasPut-refused string_bytes c.args.lines.now c.loop-line.line-index c.line-item.result
          (shows c.args.out.now) (shows c.loop-line.out) (shows c.put_line.new.out) c.put_line.result
          c.loop-line-test.true c.line-item.is c.loop-line.invariant.lines c.in_default.not-Done
          (subst (λ text. LineEnds text (change_of shows c.loop-line.out c.put_line.new.out) c.put_line.result)
          c.as_bytes.ensures.value c.put_line.ensures.ends);
      put = c.put_line.ensures.put;
      sure = λ is. c.put_line.ensures.sure (subst IsTrue (sym c.loop-line.invariant.sure) is);
      stays_sure = c.put_line.ensures.stays_sure ∙ c.loop-line.invariant.sure;
    }

pub loop-line-preserved : goal.loop-line-preserved
loop-line-preserved g c =
    let shows = g.K.Sink.shows in
    record {
      lines = HasPut-more string_bytes c.args.lines.now c.loop-line.line-index c.line-item.result
          (shows c.args.out.now) (shows c.loop-line.out) (shows c.put_line.new.out)
          c.loop-line-test.true c.line-item.is c.loop-line.invariant.lines
          (subst (λ text. LineEnds text (change_of shows c.loop-line.out c.put_line.new.out) outcome.Done)
          c.as_bytes.ensures.value c.in-Done.ensures.ends);
      sure = c.put_line.ensures.stays_sure ∙ c.loop-line.invariant.sure;
    }
