-- How long a true excess lasts, one row more.
use Rattle.std.proofs.Common.{◌≡◌, ◌∙◌, ◌+◌, ◌≤◌, ◌∷◌, [], inl, inr, List, ℕ, Bool, true, false, max, map, refl, ap, arith}
use Rattle.std.specs.Prelude.{drop, if◌then◌else◌}
use Rattle.std.proofs.lemmas.Bool.{cases_Bool, ltb-false}
use Rattle.eg_num.specs.Windows.{greatest_of}
use Rattle.eg_record.specs.declared.row.Row.{Row}
use Rattle.eg_record.specs.Spans.{this_span, spans_of}
use Rattle.eg_torque.specs.Excess.{is_excess}
use Rattle.eg_record.specs.Excess.{true_excess, lasting, longest_in, stretch_of, above}
use Rattle.eg_record.specs.Inner.RowMore.{lasts_with}
use Rattle.eg_record.proofs.SpanLemmas.{this_span-fresh, this_span-goes_on}
use Rattle.eg_record.proofs.ReactionLemmas.{earlier-fresh, earlier-goes_on, spans_of-last}

-- ---- up to the last row ----

pub lasting-nil : (t : ℕ) → lasting t (this_span []) ≡ 0
unfolding lasting this_span
lasting-nil t = refl

-- what lasts up to a row goes on from the row before it, or begins anew with a span
pub lasting-more : (t : ℕ) (row : Row) (rows : List Row) → lasts_with t row (lasting t (this_span rows)) ≡ lasting t (this_span (row ∷ rows))
unfolding lasting this_span lasts_with
lasting-more t row rows = begins row.fresh
  where
    begins : (fresh : Bool) → (if true_excess t row then (if fresh then 0 else lasting t (this_span rows)) + 1 else 0)
        ≡ (if true_excess t row then lasting t (if fresh then [] else this_span rows) + 1 else 0)
    begins true = refl
    begins false = refl

-- how many rows last up to one, by whether it has a true excess
pub lasts_with-by : (t : ℕ) (row : Row) (lasts number : ℕ) (bad : Bool) → bad ≡ true_excess t row →
    number ≡ (if bad then (if row.fresh then 0 else lasts) + 1 else 0) → number ≡ lasts_with t row lasts
unfolding lasts_with
lasts_with-by t row lasts number bad is so = so ∙ ap (λ (b : Bool). if b then (if row.fresh then 0 else lasts) + 1 else 0) is

-- where no row lasts up to one, it has no true excess, and doesn't lie above what is permitted
pub lasts_with-none : (t : ℕ) (row : Row) (lasts : ℕ) → lasts_with t row lasts ≡ 0 → true_excess t row ≡ false
unfolding lasts_with
lasts_with-none t row lasts = none (true_excess t row)
  where
    none : (bad : Bool) → (if bad then (if row.fresh then 0 else lasts) + 1 else 0) ≡ 0 → bad ≡ false
    none true lasting = absurd (omega arith)
    none false lasting = refl

pub above-none : (t : ℕ) (row : Row) → true_excess t row ≡ false → above t row ≡ 0
unfolding true_excess is_excess above
above-none t row none = let least = ltb-false (row.limit + t) row.torque none in omega arith

-- no more rows than there are
pub lasts_with-few : (t : ℕ) (row : Row) (lasts ticks : ℕ) → lasts ≤ ticks → lasts_with t row lasts ≤ ticks + 1
unfolding lasts_with
lasts_with-few t row lasts ticks few = cases (true_excess t row) row.fresh
  where
    cases : (bad fresh : Bool) → (if bad then (if fresh then 0 else lasts) + 1 else 0) ≤ ticks + 1
    cases true true = omega arith
    cases true false = omega arith
    cases false fresh = omega arith

-- ---- the longest ----

module _ (t : ℕ) where
  -- of the spans of some rows
  greatest_in : List (List Row) → ℕ
  greatest_in spans = greatest_of (map (longest_in t) spans)

  greatest_in-more : (span : List Row) (earlier : List (List Row)) → greatest_in (span ∷ earlier) ≡ max (longest_in t span) (greatest_in earlier)
  unfolding greatest_in greatest_of
  greatest_in-more span earlier = refl

  longest_in-more : (row : Row) (before : List Row) → longest_in t (row ∷ before) ≡ max (lasting t (row ∷ before)) (longest_in t before)
  unfolding longest_in
  longest_in-more row before = refl

  -- of the last span and of those before it
  of_last : (rows : List Row) → stretch_of t rows ≡ max (longest_in t (this_span rows)) (greatest_in (drop 1 (spans_of rows)))
  unfolding stretch_of greatest_in
  of_last [] = unfold spans_of greatest_of this_span longest_in in refl
  of_last (row ∷ before) = ap greatest_in (spans_of-last row before)
      ∙ greatest_in-more (this_span (row ∷ before)) (drop 1 (spans_of (row ∷ before)))

  of_spans : (rows : List Row) → stretch_of t rows ≡ greatest_in (spans_of rows)
  unfolding stretch_of greatest_in
  of_spans rows = refl

  -- one row more: the longest so far, or what lasts up to the row
  pub stretch_of-more : (row : Row) (before : List Row) → stretch_of t (row ∷ before) ≡ max (stretch_of t before) (lasting t (this_span (row ∷ before)))
  stretch_of-more row before = elim (cases_Bool row.fresh) [
    | inl fresh ↦ (let here = ap (longest_in t) (this_span-fresh row before fresh) in
        let one = longest_in-more row [] in
        let none : longest_in t [] ≡ 0 = unfold longest_in in refl in
        let last = ap (lasting t) (this_span-fresh row before fresh) in
        let others = ap greatest_in (earlier-fresh row before fresh) in
        let all = of_spans before in
        let parts = of_last (row ∷ before) in
        omega arith)
    | inr goes_on ↦ (let here = ap (longest_in t) (this_span-goes_on row before goes_on) in
        let one = longest_in-more row (this_span before) in
        let last = ap (lasting t) (this_span-goes_on row before goes_on) in
        let others = ap greatest_in (earlier-goes_on row before goes_on) in
        let all = of_last before in
        let parts = of_last (row ∷ before) in
        omega arith)
  ]
