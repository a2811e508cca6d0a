use Rattle.std.proofs.Common.{◌≡◌, ◌∙◌, sym, ap, ◌+◌, Bool, false, None, Some, max, refl}
use Rattle.std.specs.Prelude.{Option, is_some, if◌then◌else◌}
use Rattle.std.specs.Option.{option_or}
use Rattle.eg_record.specs.Detection.{detected_at}
use Rattle.eg_record.specs.declared.facts.Facts.{Facts}
use Rattle.eg_record.specs.Excess.{above}
use Rattle.eg_record.specs.Stages.{off_at}
use Rattle.eg_record.specs.Inner.RowMore.{facts_with}
use Rattle.eg_record.proofs.GivenLemmas.{option_or-none}
use Rattle.eg_record.proofs.facts.Facts.add.Goals as goal

not_some : {X : Type 0} (o : Option X) → is_some o ≡ false → o ≡ None
not_some None none = refl
not_some (Some x) none = absurd cc

pub note_cut-requires : goal.note_cut-requires
unfolding detected_at
note_cut-requires c none =
    (option_or-none c.args.self.now.first (detected_at c.args.row.now)
    (sym c.note_detection.ensures ∙ not_some c.note_detection.new.first (sym c.is_some.ensures ∙ none))).1

pub returns : goal.returns
unfolding facts_with detected_at off_at
returns c = ap (λ (f : Facts). record f { ticks = f.ticks + 1 }) c.note_excess.ensures
    ∙ (λ i. record {
      first = c.note_detection.ensures i;
      cut = c.note_cut.ensures i;
      off = (c.note_tick.ensures ∙ ap (λ (b : Bool). option_or c.args.self.now.off (if b then Some c.args.row.now.tick else None)) c.is_off.ensures) i;
      last_on = c.note_on.ensures i;
      confirmed = c.note_tick-2.ensures i;
      stretch = max c.args.self.now.stretch c.args.lasts;
      peak = max c.args.self.now.peak (above c.args.threshold c.args.row.now);
      ticks = c.args.self.now.ticks + 1;
    })
