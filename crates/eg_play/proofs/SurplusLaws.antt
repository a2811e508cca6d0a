-- The surplus is the greatest that there is in a drive span up to the first row that trips in it.
use Rattle.std.proofs.Common.{◌≡◌, ◌∙◌, refl, sym, ap, subst, inl, inr, Bool, true, false, not, List, [], ◌∷◌, ◌++◌, map, drop, append_assoc, arith}
use Rattle.std.specs.Prelude.{ℤ, ◌≤ℤ◌, int_lt, Option, Some, None, IfSome, if◌then◌else◌}
use Rattle.std.specs.List.{All}
use Rattle.std.proofs.lemmas.Bool.{cases_Bool, and_parts, and_from}
use Rattle.std.proofs.lemmas.Int.{ints}
use Rattle.std.proofs.lemmas.List.Elements.{All-nil, All-cons, All-head, All-tail}
use Rattle.eg_record.specs.declared.row.Row.{Row}
use Rattle.eg_record.specs.Spans.{this_span, IsDriveSpan, EachDriveSpan}
use Rattle.eg_record.specs.Margins.{Weighed, rows_in, is_driven, is_tripped, is_driven_untripped, weighed_where, surplus_at, greater_than, greatest_integer, surplus_of}
use Rattle.eg_record.proofs.SpanLemmas.{this_span-span, span-not_nil, drive_span-begins, drive_span-goes_on}
use Rattle.eg_play.specs.InWords.{LiesAtMost, IsSurplus}

-- ---- the greatest of some numbers ----

greater_within : (n m : ℤ) (other : Option ℤ) → m ≤ℤ n → IfSome other (λ o. o ≤ℤ n) → greater_than m other ≤ℤ n
unfolding greater_than
greater_within n m None low rest = low
greater_within n m (Some o) low rest = go (int_lt m o)
  where
    go : (b : Bool) → (if b then o else m) ≤ℤ n
    go true = rest
    go false = low

within_greater : (n m : ℤ) (other : Option ℤ) → greater_than m other ≤ℤ n → (m ≤ℤ n) × IfSome other (λ o. o ≤ℤ n)
unfolding greater_than
within_greater n m None low = (low, tt)
within_greater n m (Some o) low = go (int_lt m o) refl low
  where
    go : (b : Bool) → int_lt m o ≡ b → (if b then o else m) ≤ℤ n → (m ≤ℤ n) × (o ≤ℤ n)
    go true less high = (omega (arith, ints, less, high), high)
    go false least high = (high, omega (arith, ints, least, high))

module _ (n : ℤ) where
  abbrev Low : Weighed → Type 0
  Low w = surplus_at w.row ≤ℤ n

  greatest : List Weighed → Option ℤ
  greatest ws = greatest_integer (map (λ w. surplus_at w.row) ws)

  all_within : (ws : List Weighed) → All Low ws → IfSome (greatest ws) (λ most. most ≤ℤ n)
  unfolding greatest greatest_integer
  all_within [] all = tt
  all_within (w ∷ ws) all = greater_within n (surplus_at w.row) (greatest ws) (All-head Low w ws all) (all_within ws (All-tail Low w ws all))

  within_all : (ws : List Weighed) → IfSome (greatest ws) (λ most. most ≤ℤ n) → All Low ws
  unfolding greatest greatest_integer
  within_all [] low = All-nil Low
  within_all (w ∷ ws) low =
      let parts = within_greater n (surplus_at w.row) (greatest ws) low in
      All-cons Low w ws parts.0 (within_all ws parts.1)

  -- ---- those that count ----

  -- of each row up to which this is so
  abbrev EachWhere : (is_so : List Row → Bool) → List Row → Type 0
  EachWhere is_so rows =
      (newer : List Row) (row : Row) (before : List Row) → rows ≡ newer ++ row ∷ before → is_so (row ∷ before) ≡ true → surplus_at row ≤ℤ n

  module _ (is_so : List Row → Bool) where
    rows_in-nil : rows_in [] ≡ []
    unfolding rows_in
    rows_in-nil = refl

    rows_in-cons : (w : Weighed) (before : List Weighed) → rows_in (w ∷ before) ≡ w.row ∷ rows_in before
    unfolding rows_in
    rows_in-cons w before = refl

    where-cons : (w : Weighed) (before : List Weighed) → weighed_where is_so (w ∷ before)
        ≡ (if is_so (w.row ∷ rows_in before) then w ∷ weighed_where is_so before else weighed_where is_so before)
    unfolding weighed_where rows_in
    where-cons w before = refl

    each_where : (ws : List Weighed) → All Low (weighed_where is_so ws) → EachWhere is_so (rows_in ws)
    each_where [] all newer row before e so = absurd (nothing newer row before (sym rows_in-nil ∙ e))
      where
        nothing : (newer : List Row) (row : Row) (before : List Row) → [] ≡ newer ++ row ∷ before → ⊥
        nothing [] row before e = absurd cc
        nothing (x ∷ newer) row before e = absurd cc
    each_where (w ∷ ws) all newer row before e so = at newer (sym (rows_in-cons w ws) ∙ e) (each_where ws)
      where
        here : All Low (if is_so (w.row ∷ rows_in ws) then w ∷ weighed_where is_so ws else weighed_where is_so ws)
        here = subst (All Low) (where-cons w ws) all

        parts : (b : Bool) → All Low (if b then w ∷ weighed_where is_so ws else weighed_where is_so ws) → (b ≡ true → Low w) × All Low (weighed_where is_so ws)
        parts true low = (λ yes. All-head Low w (weighed_where is_so ws) low, All-tail Low w (weighed_where is_so ws) low)
        parts false low = (λ no. absurd cc, low)

        at : (newer : List Row) → w.row ∷ rows_in ws ≡ newer ++ row ∷ before →
            (All Low (weighed_where is_so ws) → EachWhere is_so (rows_in ws)) → surplus_at row ≤ℤ n
        at [] same by_rest =
            let first : w.row ≡ row = cc in
            subst (λ r. surplus_at r ≤ℤ n) first ((parts (is_so (w.row ∷ rows_in ws)) here).0 (ap is_so same ∙ so))
        at (x ∷ newer) same by_rest = by_rest (parts (is_so (w.row ∷ rows_in ws)) here).1 newer row before (rest same) so
          where
            rest : w.row ∷ rows_in ws ≡ x ∷ (newer ++ row ∷ before) → rows_in ws ≡ newer ++ row ∷ before
            rest e = cc

    where_each : (ws : List Weighed) → EachWhere is_so (rows_in ws) → All Low (weighed_where is_so ws)
    where_each [] each = unfold weighed_where in All-nil Low
    where_each (w ∷ ws) each = subst (All Low) (sym (where-cons w ws)) (go (is_so (w.row ∷ rows_in ws)) refl
        (where_each ws (λ newer row before e so. each (w.row ∷ newer) row before (rows_in-cons w ws ∙ ap (λ rows. w.row ∷ rows) e) so)))
      where
        go : (b : Bool) → is_so (w.row ∷ rows_in ws) ≡ b → All Low (weighed_where is_so ws) →
            All Low (if b then w ∷ weighed_where is_so ws else weighed_where is_so ws)
        go true so rest = All-cons Low w (weighed_where is_so ws) (each [] w.row (rows_in ws) (rows_in-cons w ws) so) rest
        go false other rest = rest

-- ---- the rows of drive spans ----

driven-fresh : (row : Row) (before : List Row) → row.fresh ≡ true → is_driven (row ∷ before) ≡ not row.testing
unfolding is_driven
driven-fresh row before fresh = rw fresh refl

driven-goes_on : (row : Row) (before : List Row) → row.fresh ≡ false → is_driven (row ∷ before) ≡ is_driven before
unfolding is_driven
driven-goes_on row before goes_on = rw goes_on refl

-- the rows of a drive span are driven, whatever stands before them
span_driven : (later : List Row) (first : Row) (older : List Row) → first.fresh ≡ true → first.testing ≡ false → All (λ row. row.fresh ≡ false) later →
    is_driven (later ++ (first ∷ older)) ≡ true
span_driven [] first older begins drives goes_on = driven-fresh first older begins ∙ ap not drives
span_driven (row ∷ later) first older begins drives goes_on =
    driven-goes_on row (later ++ (first ∷ older)) (All-head (λ r. r.fresh ≡ false) row later goes_on)
    ∙ span_driven later first older begins drives (All-tail (λ r. r.fresh ≡ false) row later goes_on)

drive_span-driven : (span older : List Row) → IsDriveSpan span → is_driven (span ++ older) ≡ true
drive_span-driven span older is = ap (λ rows. is_driven (rows ++ older)) is.span.is ∙ ap is_driven (append_assoc is.span.later (is.span.first ∷ []) older)
    ∙ span_driven is.span.later is.span.first older is.span.begins is.drives is.span.goes_on

-- and rows that end with a driven one end with a drive span
record EndsDriven (rows : List Row) : Type 0 where
  span : List Row
  older : List Row
  is : rows ≡ span ++ older
  drives : IsDriveSpan span

ends_driven : (rows : List Row) → is_driven rows ≡ true → EndsDriven rows
ends_driven [] driven = unfold is_driven in absurd cc
ends_driven (row ∷ before) driven = elim (cases_Bool row.fresh) [
  | inl fresh ↦ record {
    span = row ∷ [];
    older = before;
    is = refl;
    drives = drive_span-begins row fresh (tested row.testing (sym (driven-fresh row before fresh) ∙ driven));
  }
  | inr goes_on ↦ (let earlier = ends_driven before (sym (driven-goes_on row before goes_on) ∙ driven) in record {
    span = row ∷ earlier.span;
    older = earlier.older;
    is = ap (λ rows. row ∷ rows) earlier.is;
    drives = drive_span-goes_on row earlier.span goes_on earlier.drives;
  })
]
  where
    tested : (b : Bool) → not b ≡ true → b ≡ false
    tested true is = absurd cc
    tested false is = refl

not_true : (b : Bool) → not b ≡ true → b ≡ false
not_true true is = absurd cc
not_true false is = refl

module _ (n : ℤ) (rows : List Row) where
  span_each : EachDriveSpan (LiesAtMost n) rows → EachWhere n is_driven_untripped rows
  unfolding is_driven_untripped
  span_each each newer row before e so = at ends.span ends.older ends.is ends.drives
    where
      both : (is_driven (row ∷ before) ≡ true) × (not (is_tripped (drop 1 (this_span (row ∷ before)))) ≡ true)
      both = and_parts (is_driven (row ∷ before)) (not (is_tripped (drop 1 (this_span (row ∷ before))))) so

      ends : EndsDriven (row ∷ before)
      ends = ends_driven (row ∷ before) both.0

      at : (span older : List Row) → row ∷ before ≡ span ++ older → IsDriveSpan span → surplus_at row ≤ℤ n
      at [] older is drives = absurd (span-not_nil drives.span)
      at (last ∷ earlier) older is drives =
          let first : last ≡ row = cc in
          subst (λ r. surplus_at r ≤ℤ n) first
          (each newer (last ∷ earlier) older (e ∙ ap (λ rows. newer ++ rows) is) drives
          (not_true (is_tripped earlier) (ap (λ rows. not (is_tripped (drop 1 rows)))
          (sym (this_span-span (last ∷ earlier) older drives.span) ∙ ap this_span (sym is)) ∙ both.1)))

  each_span : EachWhere n is_driven_untripped rows → EachDriveSpan (LiesAtMost n) rows
  unfolding is_driven_untripped
  each_span each newer [] older e drives = absurd (span-not_nil drives.span)
  each_span each newer (row ∷ before) older e drives = λ quiet. each newer row (before ++ older) e
      (and_from (is_driven (row ∷ (before ++ older))) (not (is_tripped (drop 1 (this_span (row ∷ (before ++ older))))))
      (drive_span-driven (row ∷ before) older drives)
      (ap (λ rows. not (is_tripped (drop 1 rows))) (this_span-span (row ∷ before) older drives.span) ∙ ap not quiet))

-- ---- the law ----

pub is_surplus : (weighed : List Weighed) → IsSurplus (rows_in weighed) (surplus_of weighed)
unfolding surplus_of greatest
is_surplus weighed n = (
  λ each. all_within n (weighed_where is_driven_untripped weighed) (where_each n is_driven_untripped weighed (span_each n (rows_in weighed) each)),
  λ low. each_span n (rows_in weighed) (each_where n is_driven_untripped weighed (within_all n (weighed_where is_driven_untripped weighed) low)),
)
