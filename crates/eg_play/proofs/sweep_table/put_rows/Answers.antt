use Rattle.std.proofs.Common.{◌≡◌, ◌∙◌, ap, subst, map}
use Rattle.eg_campaign.specs.Groups.{inputs_under, facts_by}
use Rattle.eg_table.specs.Sweep.{table_of}
use Rattle.eg_table.specs.SweepTexts.{sweep_text_of}
use Rattle.eg_outcome.specs.Changes.{change, change_of}
use Rattle.eg_outcome.specs.Outcomes.{LineEnds}
use Rattle.eg_outcome.specs.declared.outcome.Outcome.TheVariants.{Memory}
use Rattle.eg_play.proofs.PlayLemmas.{ticked, unwritten}
use Rattle.eg_play.proofs.sweep_table.put_rows.Goals as goal

pub returns-in_default : goal.returns-in_default
returns-in_default g c = record { written = unwritten _ (g.K.Sink.shows c.args.out.now); ticked = c.in_default.ensures.counted }

pub returns-in_default-sweep_text : goal.returns-in_default-sweep_text
returns-in_default-sweep_text g c = record {
  written = unwritten _ (g.K.Sink.shows c.args.out.now);
  ticked = ticked _ (change c.args.steps.now c.facts_under.new.steps) Memory c.in-Ok.ensures.counted;
}

pub returns : goal.returns
returns g c =
    let a = c.args in
    let out = change_of g.K.Sink.shows a.out.now c.put_text.new.out in
    let text : c.deref-2.result.now ≡ sweep_text_of (table_of a.faults.now (map (facts_by a.calibration.now) (inputs_under a.input.now a.faults.now))) =
    c.deref-2.ensures.value ∙ c.in-Ok-sweep_text.ensures
    ∙ ap sweep_text_of (c.tabulate-rows.ensures.rows ∙ ap (table_of a.faults.now) (c.deref.ensures.value ∙ c.in-Ok.ensures.told)) in
    record {
      written = subst (λ t. LineEnds t out c.put_text.result) text c.put_text.ensures.ends;
      ticked = ticked _ (change a.steps.now c.facts_under.new.steps) c.put_text.result c.in-Ok.ensures.counted;
    }
