use Rattle.std.proofs.Common.{◌≡◌, ◌∙◌, ap, subst, map}
use Rattle.std.specs.Prelude.{string_bytes}
use Rattle.std.specs.List.{concat}
use Rattle.eg_outcome.specs.Changes.{change, change_of}
use Rattle.eg_outcome.specs.Outcomes.{LineEnds}
use Rattle.eg_outcome.specs.declared.outcome.Outcome.TheVariants.{Memory}
use Rattle.eg_play.proofs.PlayLemmas.{ticked, unwritten}
use Rattle.eg_soak.specs.Soak.{drawn_runs, soak_of}
use Rattle.eg_soak.specs.Texts.{soak_text}
use Rattle.eg_app.proofs.SoakLemmas.{text_of, drawn_keep_headline}
use Rattle.eg_app.proofs.soak.play_drawn.Goals as goal

pub returns-in_default : goal.returns-in_default
returns-in_default g c = record {
  written = unwritten _ (g.K.Sink.shows c.args.out.now);
  ticked = c.in_default.ensures.counted;
  headline = drawn_keep_headline _ c.reference-calibration.ensures.parts c.reference-calibration.ensures.accepted c.args.runs c.args.seed;
}

pub returns-in_default-soak_lines : goal.returns-in_default-soak_lines
returns-in_default-soak_lines g c = record {
  written = unwritten _ (g.K.Sink.shows c.args.out.now);
  ticked = ticked _ (change c.args.steps.now c.soak.new.steps) Memory c.in-Ok.ensures.counted;
  headline = drawn_keep_headline _ c.reference-calibration.ensures.parts c.reference-calibration.ensures.accepted c.args.runs c.args.seed;
}

pub returns : goal.returns
returns g c =
    let a = c.args in
    let out = change_of g.K.Sink.shows a.out.now c.put_lines.new.out in
    let text : concat (map string_bytes c.deref.result.now) ≡ soak_text (soak_of (drawn_runs a.runs a.seed)) =
    ap (λ lines. concat (map string_bytes lines)) c.deref.ensures.value ∙ ap concat c.in-Ok-soak_lines.ensures
    ∙ text_of c.in-Ok.summary ∙ ap soak_text c.in-Ok.ensures.summary in
    record {
      written = subst (λ t. LineEnds t out c.put_lines.result) text c.put_lines.ensures.ends;
      ticked = ticked _ (change a.steps.now c.soak.new.steps) c.put_lines.result c.in-Ok.ensures.counted;
      headline = drawn_keep_headline _ c.reference-calibration.ensures.parts c.reference-calibration.ensures.accepted a.runs a.seed;
    }
