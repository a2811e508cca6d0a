use Rattle.std.proofs.Common.{◌≡◌, ◌∙◌, ap, ap₂, subst}
use Rattle.eg_answer.specs.Times.{reaction_of}
use Rattle.eg_outcome.specs.Changes.{change, change_of}
use Rattle.eg_outcome.specs.Outcomes.{LineEnds}
use Rattle.eg_outcome.specs.declared.outcome.Outcome.TheVariants.{Memory}
use Rattle.eg_play.specs.Texts.{rows_by, rows_text}
use Rattle.eg_play.proofs.PlayLemmas.{ticked, unwritten, rows_are}
use Rattle.eg_play.proofs.rows.put_rows.Goals as goal

pub returns-in_default : goal.returns-in_default
returns-in_default g c = record { written = unwritten _ (g.K.Sink.shows c.args.out.now); ticked = c.in_default.ensures.counted }

pub returns-in_default-rows_text : goal.returns-in_default-rows_text
returns-in_default-rows_text g c = record {
  written = unwritten _ (g.K.Sink.shows c.args.out.now);
  ticked = ticked _ (change c.args.steps.now c.told_for.new.steps) Memory c.in-Ok.ensures.counted;
}

pub returns : goal.returns
returns g c =
    let a = c.args in
    let out = change_of g.K.Sink.shows a.out.now c.put_text.new.out in
    let text : c.deref-2.result.now ≡ rows_text a.columns a.calibration.now a.inputs.now =
    c.deref-2.ensures.value ∙ c.in-Ok-rows_text.ensures
    ∙ ap₂ (λ bound told. rows_by a.columns bound a.inputs.now told) (c.reaction-bound.ensures ∙ ap reaction_of c.times.ensures.times) (c.deref.ensures.value ∙ c.in-Ok.ensures.told)
    ∙ rows_are a.columns a.calibration.now a.inputs.now in
    record {
      written = subst (λ t. LineEnds t out c.put_text.result) text c.put_text.ensures.ends;
      ticked = ticked _ (change a.steps.now c.told_for.new.steps) c.put_text.result c.in-Ok.ensures.counted;
    }
