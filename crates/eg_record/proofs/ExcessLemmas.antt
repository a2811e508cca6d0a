-- The first tick at which the true excess is confirmed within its span.
use Rattle.std.proofs.Common.{◌≡◌, ◌∙◌, ◌++◌, ◌∷◌, [], ◌&&◌, not, inl, inr, List, ℕ, Bool, true, false, None, Some, map, length, refl, sym, ap, ap₂, subst}
use Rattle.std.specs.Prelude.{if◌then◌else◌}
use Rattle.std.specs.Option.{option_or}
use Rattle.std.specs.Prelude.{Option, is_some}
use Rattle.std.proofs.lemmas.Bool.{cases_Bool}
use Rattle.std.proofs.lemmas.List.{length-map}
use Rattle.eg_num.specs.Windows.{WeightParts, is_confirmed, first_index}
use Rattle.eg_num.proofs.FirstIndexLemmas.{is_first_from, is_first-cons, is_some-first_index, first_index-cons, first_index-first, first_index-other}
use Rattle.eg_num.specs.Counting.{StandsFor}
use Rattle.eg_num.proofs.CounterLemmas.{counted-nil}
use Rattle.eg_record.specs.declared.row.Row.{Row}
use Rattle.eg_record.specs.Spans.{this_span}
use Rattle.eg_record.specs.Excess.{true_excess, is_excess_confirmed, first_confirmed}
use Rattle.eg_record.proofs.SpanLemmas.{one_span-part}

-- ---- one row more ----

-- where it isn't confirmed before, and is at this row
pub first_confirmed-here : (w : WeightParts) (t : ℕ) (row : Row) (before : List Row) → first_confirmed w t before ≡ None → is_excess_confirmed w t (row ∷ before) ≡ true →
    first_confirmed w t (row ∷ before) ≡ Some (length before)
unfolding first_confirmed
first_confirmed-here w t row before none now = ap₂ (λ o (b : Bool). option_or o (if b then Some (length before) else None)) none now

-- where it isn't at this row either
pub first_confirmed-none : (w : WeightParts) (t : ℕ) (row : Row) (before : List Row) → first_confirmed w t before ≡ None → is_excess_confirmed w t (row ∷ before) ≡ false →
    first_confirmed w t (row ∷ before) ≡ None
unfolding first_confirmed
first_confirmed-none w t row before none other = ap₂ (λ o (b : Bool). option_or o (if b then Some (length before) else None)) none other

-- what is the first tick stays it as the rows go on
pub first_confirmed-append : (w : WeightParts) (t : ℕ) (more rows : List Row) (c : ℕ) → first_confirmed w t rows ≡ Some c → first_confirmed w t (more ++ rows) ≡ Some c
unfolding first_confirmed
first_confirmed-append w t [] rows c first = first
first_confirmed-append w t (row ∷ more) rows c first =
    ap (λ o. option_or o (if is_excess_confirmed w t (row ∷ (more ++ rows)) then Some (length (more ++ rows)) else None)) (first_confirmed-append w t more rows c first)

-- ---- in one span ----

-- one bit more: the first place is that of the bits before, or else the last one if the bits are confirmed now
pub first_index-now : (w : WeightParts) (b : Bool) (bits : List Bool) →
    option_or (first_index w bits) (if is_confirmed w (b ∷ bits) then Some (length bits) else None) ≡ first_index w (b ∷ bits)
first_index-now w b bits = elim (cases_Bool (is_confirmed w bits)) [
  | inl confirmed ↦ stays (first_index w bits) (is_some-first_index w bits ∙ confirmed) (if is_confirmed w (b ∷ bits) then Some (length bits) else None)
      ∙ sym (first_index-cons w b bits confirmed)
  | inr unconfirmed ↦ (let none = no_place (first_index w bits) (is_some-first_index w bits ∙ unconfirmed) in
      ap (λ place. option_or place (if is_confirmed w (b ∷ bits) then Some (length bits) else None)) none ∙ elim (cases_Bool (is_confirmed w (b ∷ bits))) [
        | inl now ↦ ap (λ (c : Bool). if c then Some (length bits) else None) now ∙ sym (first_index-first w b bits (is_first_from w b bits now unconfirmed))
        | inr never ↦ ap (λ (c : Bool). if c then Some (length bits) else None) never
            ∙ sym (first_index-other w b bits (is_first-cons w b bits ∙ ap (λ (c : Bool). c && not (is_confirmed w bits)) never) ∙ none)
      ])
]
  where
    stays : (place : Option ℕ) → is_some place ≡ true → (more : Option ℕ) → option_or place more ≡ place
    stays None e more = absurd cc
    stays (Some n) e more = refl

    no_place : (place : Option ℕ) → is_some place ≡ false → place ≡ None
    no_place None e = refl
    no_place (Some n) e = absurd cc

-- where all rows are of one span, it is the first place of the bits of all rows
pub first_confirmed-one_span : (w : WeightParts) (t : ℕ) (rows : List Row) → this_span rows ≡ rows → first_confirmed w t rows ≡ first_index w (map (true_excess t) rows)
unfolding first_confirmed is_excess_confirmed first_index
first_confirmed-one_span w t [] one = refl
first_confirmed-one_span w t (row ∷ before) one =
    ap₂ (λ o rs. option_or o (if is_confirmed w (map (true_excess t) rs) then Some (length before) else None))
    (first_confirmed-one_span w t before (one_span-part (row ∷ []) before one)) one
    ∙ ap (λ (n : ℕ). option_or (first_index w (map (true_excess t) before)) (if is_confirmed w (true_excess t row ∷ map (true_excess t) before) then Some n else None))
    (sym (length-map before (true_excess t)))
    ∙ first_index-now w (true_excess t row) (map (true_excess t) before)

-- ---- one row more, by the counter ----

-- a counter that begins anew at a fresh row stands for the part of the span before the row
pub begins : (w : WeightParts) (f : Row → Bool) (fresh : Bool) (old new : ℕ) (before : List Row) → new ≡ (if fresh then 0 else old) → StandsFor w old (map f before) →
    StandsFor w new (map f (if fresh then [] else before))
begins w f true old new before same stands = same ∙ sym (counted-nil w)
begins w f false old new before same stands = same ∙ stands

-- fed the bit of the row, it stands for the span up to the row, and answers whether the excess is confirmed
pub fed_stands : (w : WeightParts) (t : ℕ) (row : Row) (before : List Row) (bit : Bool) (value : ℕ) → bit ≡ true_excess t row →
    StandsFor w value (bit ∷ map (true_excess t) (if row.fresh then [] else this_span before)) → StandsFor w value (map (true_excess t) (this_span (row ∷ before)))
unfolding this_span
fed_stands w t row before bit value same stands = subst (λ (b : Bool). StandsFor w value (b ∷ map (true_excess t) (if row.fresh then [] else this_span before))) same stands

pub fed_answers : (w : WeightParts) (t : ℕ) (row : Row) (before : List Row) (bit answer : Bool) → bit ≡ true_excess t row →
    answer ≡ is_confirmed w (bit ∷ map (true_excess t) (if row.fresh then [] else this_span before)) → is_excess_confirmed w t (row ∷ before) ≡ answer
unfolding this_span is_excess_confirmed
fed_answers w t row before bit answer same told = sym (told ∙ ap (λ (b : Bool). is_confirmed w (b ∷ map (true_excess t) (if row.fresh then [] else this_span before))) same)
