use Rattle.std.proofs.Common.{◌≡◌, ◌∙◌, ◌+◌, ◌∷◌, List, sym, ap, subst, arith}
use Rattle.eg_record.specs.declared.row.Row.{Row}
use Rattle.eg_record.specs.declared.facts.Facts.{Facts}
use Rattle.eg_record.specs.Inner.RowMore.{lasts_with, facts_with}
use Rattle.eg_record.specs.Tallies.{TallyParts, IsTallyOf}
use Rattle.eg_record.proofs.StretchLemmas.{lasts_with-by, lasts_with-none, lasts_with-few}
use Rattle.eg_record.proofs.TallyLemmas.{IsFed, fed_tally}
use Rattle.eg_record.proofs.tally.Tally.feed.Goals as goal

-- the tally before the row
abbrev before : goal.After-add-2 → TallyParts
before c = record { threshold = c.self.inside.threshold; weights = c.self.inside.weights; facts = c.self.inside.facts; value = c.self.inside.counter.value; lasts = c.self.inside.lasts; spans = c.self.inside.spans }

pub add-requires-clause-lasts : goal.add-requires-clause-lasts
add-requires-clause-lasts c none =
    lasts_with-none c.self.inside.threshold c.args.row.now c.self.inside.lasts
    (sym (lasts_with-by c.self.inside.threshold c.args.row.now c.self.inside.lasts _ _ c.is_excess-exceeds.ensures c.lasts_at-self-inside.ensures) ∙ none)

-- how many rows in a row have an excess, up to the row
lasted : (c : goal.After-add-2) → c.lasts_at-self-inside.result ≡ lasts_with c.self.inside.threshold c.args.row.now c.self.inside.lasts
lasted c = lasts_with-by c.self.inside.threshold c.args.row.now c.self.inside.lasts _ _ c.is_excess-exceeds.ensures c.lasts_at-self-inside.ensures

-- it stands for the row and for those before it
goes_on : (c : goal.After-add-2) (rows : List Row) → IsTallyOf (before c) rows →
    IsTallyOf (record { threshold = c.self.inside.threshold; weights = c.self.inside.weights; facts = c.add.new.self; value = c.feed-is_confirmed.new.self.value; lasts = c.lasts_at-self-inside.result; spans = c.add-2.new.self }) (c.args.row.now ∷ rows)
goes_on c rows stands =
    let tick = c.requires.tick ∙ sym (ap (λ v. v.facts.ticks) c.self.view_is) in
    let fed : IsFed (before c) c.args.row.now c.feed-is_confirmed.new.self.value c.feed-is_confirmed.result = record {
      begun = c.counter_at-counter.result.value;
      begins = c.counter_at-counter.ensures;
      bit = c.is_excess-exceeds.result;
      bit_is = c.is_excess-exceeds.ensures;
      windows = c.feed-is_confirmed.ensures.windows;
      answers = c.feed-is_confirmed.ensures.confirmed;
    } in
    fed_tally (before c) c.args.row.now _ _ _ c.add.new.self c.add-2.new.self rows tick fed (lasted c) c.add.ensures c.add-2.ensures stands

pub invariant_of-self : goal.invariant_of-self
unfolding facts_with
invariant_of-self c = record {
  weights = c.self.invariant.weights;
  within = c.feed-is_confirmed.ensures.within;
  few = let few = lasts_with-few c.self.inside.threshold c.args.row.now c.self.inside.lasts c.self.inside.facts.ticks c.self.invariant.few in
      let lasts = lasted c in
      let ticks = ap (λ (f : Facts). f.ticks) c.add.ensures in
      omega arith;
  some = (c.args.row.now ∷ c.self.invariant.some.0, goes_on c c.self.invariant.some.0 c.self.invariant.some.1);
}

pub returns-clause-ticks : goal.returns-clause-ticks
unfolding facts_with
returns-clause-ticks c = ap (λ (f : Facts). f.ticks) c.add.ensures ∙ ap (λ v. v.facts.ticks + 1) c.self.view_is

pub returns-clause-stands : goal.returns-clause-stands
returns-clause-stands c rows stands = goes_on c rows (subst (λ v. IsTallyOf v rows) (sym c.self.view_is) stands)
