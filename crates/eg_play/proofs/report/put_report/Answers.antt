use Rattle.std.proofs.Common.{◌≡◌, ◌∙◌, ap, subst, map}
use Rattle.std.specs.Prelude.{string_bytes}
use Rattle.std.specs.List.{concat}
use Rattle.eg_outcome.specs.Changes.{change, change_of}
use Rattle.eg_outcome.specs.Outcomes.{LineEnds}
use Rattle.eg_outcome.specs.declared.outcome.Outcome.TheVariants.{Memory}
use Rattle.eg_play.specs.Texts.{report_text}
use Rattle.eg_play.proofs.PlayLemmas.{ticked, unwritten, report_is}
use Rattle.eg_play.proofs.report.put_report.Goals as goal

pub returns-in_default : goal.returns-in_default
returns-in_default g c = record { written = unwritten _ (g.K.Sink.shows c.args.out.now); ticked = c.in_default.ensures.counted }

pub returns-in_default-report_lines : goal.returns-in_default-report_lines
returns-in_default-report_lines g c = record {
  written = unwritten _ (g.K.Sink.shows c.args.out.now);
  ticked = ticked _ (change c.args.steps.now c.run_all.new.steps) Memory c.in-Ok.ensures.counted;
}

pub returns : goal.returns
returns g c =
    let a = c.args in
    let out = change_of g.K.Sink.shows a.out.now c.put_lines.new.out in
    let text : concat (map string_bytes c.deref-2.result.now) ≡ report_text a.calibration.now a.inputs.now =
    ap (λ lines. concat (map string_bytes lines)) c.deref-2.ensures.value ∙ c.in-Ok-report_lines.ensures
    ∙ report_is a.calibration.now a.inputs.now c.deref.result.now (c.deref.ensures.value ∙ c.in-Ok.ensures.told) in
    record {
      written = subst (λ t. LineEnds t out c.put_lines.result) text c.put_lines.ensures.ends;
      ticked = ticked _ (change a.steps.now c.run_all.new.steps) c.put_lines.result c.in-Ok.ensures.counted;
    }
