-- One row more: the spans of a run, and what a tally keeps of them.
use Rattle.std.proofs.Common.{◌≡◌, ◌∙◌, ◌+◌, ◌-◌, ◌∷◌, [], inl, inr, List, ℕ, Bool, true, false, None, Some, map, length, refl, sym, ap, ap₂, subst, arith}
use Rattle.std.specs.Prelude.{Option, drop, option_map, if◌then◌else◌}
use Rattle.std.specs.Option.{option_or}
use Rattle.std.proofs.lemmas.Bool.{cases_Bool}
use Rattle.eg_num.specs.Windows.{WeightParts, is_confirmed}
use Rattle.eg_record.specs.declared.row.Row.{Row}
use Rattle.eg_record.specs.declared.span_tally.SpanTally.{SpanTally}
use Rattle.eg_record.specs.Rows.{AreRows}
use Rattle.eg_record.specs.Spans.{this_span, spans_of, in_last}
use Rattle.eg_record.specs.Stages.{last_on}
use Rattle.eg_record.specs.Excess.{true_excess, is_excess_confirmed}
use Rattle.eg_record.specs.Facts.{reaction_by, off_from}
use Rattle.eg_record.specs.Reactions.{confirmed_in, end_of, reaction_in_span, followed_in, no_reactions, greater, less, combined, reactions_in, reactions_of_spans, reactions_of}
use Rattle.eg_record.specs.Inner.RowMore.{span_reactions, ended_at, gone_on, spans_with}
use Rattle.eg_record.specs.Tallies.{AreSpansOf}
use Rattle.eg_record.proofs.SpanLemmas.{this_span-fresh, this_span-goes_on}

-- ---- the spans of rows ----

-- those before the last one, where a span begins at the last row, and where it goes on
pub earlier-fresh : (row : Row) (before : List Row) → row.fresh ≡ true → drop 1 (spans_of (row ∷ before)) ≡ spans_of before
unfolding spans_of
earlier-fresh row before fresh = ap (λ (b : Bool). drop 1 (if b then (row ∷ []) ∷ spans_of before else in_last row (spans_of before))) fresh

earlier-in_last : (row : Row) (spans : List (List Row)) → drop 1 (in_last row spans) ≡ drop 1 spans
unfolding in_last
earlier-in_last row [] = refl
earlier-in_last row (span ∷ earlier) = refl

pub earlier-goes_on : (row : Row) (before : List Row) → row.fresh ≡ false → drop 1 (spans_of (row ∷ before)) ≡ drop 1 (spans_of before)
unfolding spans_of
earlier-goes_on row before goes_on =
    ap (λ (b : Bool). drop 1 (if b then (row ∷ []) ∷ spans_of before else in_last row (spans_of before))) goes_on
    ∙ earlier-in_last row (spans_of before)

-- a row behind the spans of some rows stands in the last one
in_last-first : (row : Row) (span : List Row) (earlier : List (List Row)) → in_last row (span ∷ earlier) ≡ (row ∷ span) ∷ earlier
unfolding in_last
in_last-first row span earlier = refl

in_last-none : (row : Row) → in_last row (spans_of []) ≡ (row ∷ this_span []) ∷ drop 1 (spans_of [])
unfolding in_last spans_of this_span
in_last-none row = refl

spans_of-fresh : (row : Row) (before : List Row) → row.fresh ≡ true → spans_of (row ∷ before) ≡ (row ∷ []) ∷ spans_of before
unfolding spans_of
spans_of-fresh row before fresh = ap (λ (b : Bool). if b then (row ∷ []) ∷ spans_of before else in_last row (spans_of before)) fresh

spans_of-goes_on : (row : Row) (before : List Row) → row.fresh ≡ false → spans_of (row ∷ before) ≡ in_last row (spans_of before)
unfolding spans_of
spans_of-goes_on row before goes_on = ap (λ (b : Bool). if b then (row ∷ []) ∷ spans_of before else in_last row (spans_of before)) goes_on

-- the last one is that of the last row, where that is so of the rows before it
last-one : (row : Row) (before : List Row) → in_last row (spans_of before) ≡ (row ∷ this_span before) ∷ drop 1 (spans_of before) →
    spans_of (row ∷ before) ≡ this_span (row ∷ before) ∷ drop 1 (spans_of (row ∷ before))
last-one row before longer = elim (cases_Bool row.fresh) [
  | inl fresh ↦ spans_of-fresh row before fresh
      ∙ ap₂ (λ span earlier. span ∷ earlier) (sym (this_span-fresh row before fresh)) (sym (earlier-fresh row before fresh))
  | inr goes_on ↦ spans_of-goes_on row before goes_on ∙ longer
      ∙ ap₂ (λ span earlier. span ∷ earlier) (sym (this_span-goes_on row before goes_on)) (sym (earlier-goes_on row before goes_on))
]

pub spans_of-last : (row : Row) (before : List Row) → spans_of (row ∷ before) ≡ this_span (row ∷ before) ∷ drop 1 (spans_of (row ∷ before))
spans_of-last row [] = last-one row [] (in_last-none row)
spans_of-last row (last ∷ before) = last-one row (last ∷ before)
    (ap (in_last row) (spans_of-last last before) ∙ in_last-first row (this_span (last ∷ before)) (drop 1 (spans_of (last ∷ before))))

-- ---- what is told of them ----

none_told : (w : WeightParts) (t : ℕ) → reactions_of w t [] ≡ combined (reactions_in w t (this_span [])) (reactions_of_spans w t (drop 1 (spans_of [])))
unfolding reactions_of spans_of this_span reactions_of_spans reactions_in combined no_reactions reaction_in_span followed_in confirmed_in end_of last_on greater less off_from
none_told w t = refl

told-first : (w : WeightParts) (t : ℕ) (span : List Row) (earlier : List (List Row)) →
    reactions_of_spans w t (span ∷ earlier) ≡ combined (reactions_in w t span) (reactions_of_spans w t earlier)
unfolding reactions_of_spans
told-first w t span earlier = refl

reactions_of-spans : (w : WeightParts) (t : ℕ) (rows : List Row) → reactions_of w t rows ≡ reactions_of_spans w t (spans_of rows)
unfolding reactions_of
reactions_of-spans w t rows = refl

-- of all of them: what is told of the last one, and of those before
pub reactions_of-last : (w : WeightParts) (t : ℕ) (rows : List Row) →
    reactions_of w t rows ≡ combined (reactions_in w t (this_span rows)) (reactions_of_spans w t (drop 1 (spans_of rows)))
reactions_of-last w t [] = none_told w t
reactions_of-last w t (row ∷ before) =
    reactions_of-spans w t (row ∷ before)
    ∙ ap (reactions_of_spans w t) (spans_of-last row before)
    ∙ told-first w t (this_span (row ∷ before)) (drop 1 (spans_of (row ∷ before)))

-- ---- what is kept of them ----

-- the span of the last row ends where the rows end
end_of-this_span : (rows : List Row) → AreRows rows → end_of (this_span rows) ≡ length rows
unfolding end_of this_span
end_of-this_span [] whole = refl
end_of-this_span (row ∷ before) whole = let here = whole.0 in omega arith

-- what is told of it
span_reactions-is : (w : WeightParts) (t : ℕ) (spans : SpanTally) (rows : List Row) → AreRows rows → AreSpansOf w t spans rows →
    span_reactions (length rows) spans ≡ reactions_in w t (this_span rows)
unfolding span_reactions reactions_in reaction_in_span followed_in
span_reactions-is w t spans rows whole are =
    let end = sym (end_of-this_span rows whole) in
    λ i. record {
      longest = reaction_by (are.last_on i) (are.confirmed i) (end i);
      followed = option_map (λ c. end i - (c + 1)) (are.confirmed i);
    }

-- and of all spans of the rows
pub told-all : (w : WeightParts) (t : ℕ) (spans : SpanTally) (rows : List Row) → AreRows rows → AreSpansOf w t spans rows →
    combined (span_reactions (length rows) spans) spans.ended ≡ reactions_of w t rows
told-all w t spans rows whole are = ap₂ combined (span_reactions-is w t spans rows whole are) are.ended ∙ sym (reactions_of-last w t rows)

-- ---- one row more ----

last_on-cons : (row : Row) (before : List Row) → last_on (row ∷ before) ≡ (if row.on then Some row.tick else last_on before)
unfolding last_on
last_on-cons row before = refl

confirmed_in-cons : (w : WeightParts) (t : ℕ) (row : Row) (before : List Row) → confirmed_in w t (row ∷ before)
    ≡ option_or (confirmed_in w t before) (if is_confirmed w (map (true_excess t) (row ∷ before)) then Some row.tick else None)
unfolding confirmed_in
confirmed_in-cons w t row before = refl

-- The rows of the span that a row goes on with: it keeps what stands for them with that row.
pub record GoesOn (w : WeightParts) (t : ℕ) (begun : SpanTally) (rows : List Row) (earlier : List (List Row)) : Type 0 where
  pub last_on : begun.last_on ≡ last_on rows
  pub confirmed : begun.confirmed ≡ confirmed_in w t rows
  pub ended : begun.ended ≡ reactions_of_spans w t earlier

gone_on-is : (w : WeightParts) (t : ℕ) (row : Row) (before rows : List Row) (confirmed : Bool) (begun : SpanTally) →
    confirmed ≡ is_excess_confirmed w t (row ∷ before) → this_span (row ∷ before) ≡ row ∷ rows →
    GoesOn w t begun rows (drop 1 (spans_of (row ∷ before))) → AreSpansOf w t (gone_on row confirmed begun) (row ∷ before)
unfolding gone_on is_excess_confirmed
gone_on-is w t row before rows confirmed begun now here goes_on = record {
  last_on = ap (λ (o : Option ℕ). if row.on then Some row.tick else o) goes_on.last_on ∙ sym (last_on-cons row rows) ∙ ap last_on (sym here);
  confirmed = ap₂ (λ (o : Option ℕ) (b : Bool). option_or o (if b then Some row.tick else None)) goes_on.confirmed
      (now ∙ ap (λ span. is_confirmed w (map (true_excess t) span)) here)
      ∙ sym (confirmed_in-cons w t row rows) ∙ ap (confirmed_in w t) (sym here);
  ended = goes_on.ended;
}

spans_with-fresh : (row : Row) (confirmed : Bool) (spans : SpanTally) → row.fresh ≡ true → spans_with row confirmed spans ≡ gone_on row confirmed (ended_at row.tick spans)
unfolding spans_with
spans_with-fresh row confirmed spans fresh = ap (λ (b : Bool). gone_on row confirmed (if b then ended_at row.tick spans else spans)) fresh

spans_with-goes_on : (row : Row) (confirmed : Bool) (spans : SpanTally) → row.fresh ≡ false → spans_with row confirmed spans ≡ gone_on row confirmed spans
unfolding spans_with
spans_with-goes_on row confirmed spans goes_on = ap (λ (b : Bool). gone_on row confirmed (if b then ended_at row.tick spans else spans)) goes_on

begins_anew : (w : WeightParts) (t : ℕ) (spans : SpanTally) (row : Row) (before : List Row) → row.tick ≡ length before → AreRows before →
    row.fresh ≡ true → AreSpansOf w t spans before → GoesOn w t (ended_at row.tick spans) [] (drop 1 (spans_of (row ∷ before)))
unfolding ended_at last_on confirmed_in reactions_of
begins_anew w t spans row before tick whole fresh are = record {
  last_on = refl;
  confirmed = refl;
  ended = ap (λ n. combined (span_reactions n spans) spans.ended) tick ∙ told-all w t spans before whole are
      ∙ ap (reactions_of_spans w t) (sym (earlier-fresh row before fresh));
}

-- what is kept stands for the rows and one more
pub spans_with-is : (w : WeightParts) (t : ℕ) (spans : SpanTally) (row : Row) (before : List Row) (confirmed : Bool) → row.tick ≡ length before → AreRows before →
    confirmed ≡ is_excess_confirmed w t (row ∷ before) → AreSpansOf w t spans before → AreSpansOf w t (spans_with row confirmed spans) (row ∷ before)
spans_with-is w t spans row before confirmed tick whole now are = elim (cases_Bool row.fresh) [
  | inl fresh ↦ subst (λ s. AreSpansOf w t s (row ∷ before)) (sym (spans_with-fresh row confirmed spans fresh))
      (gone_on-is w t row before [] confirmed (ended_at row.tick spans) now (this_span-fresh row before fresh) (begins_anew w t spans row before tick whole fresh are))
  | inr goes_on ↦ subst (λ s. AreSpansOf w t s (row ∷ before)) (sym (spans_with-goes_on row confirmed spans goes_on))
      (gone_on-is w t row before (this_span before) confirmed spans now (this_span-goes_on row before goes_on) (record {
        last_on = are.last_on;
        confirmed = are.confirmed;
        ended = are.ended ∙ ap (reactions_of_spans w t) (sym (earlier-goes_on row before goes_on));
      }))
]

-- what is kept before the first row
pub spans-none : (w : WeightParts) (t : ℕ) (spans : SpanTally) → spans.last_on ≡ None → spans.confirmed ≡ None → spans.ended ≡ no_reactions → AreSpansOf w t spans []
unfolding this_span spans_of last_on confirmed_in reactions_of_spans
spans-none w t spans on confirmed ended = record { last_on = on; confirmed = confirmed; ended = ended }
