-- A row of the table, run by run.
use Rattle.std.proofs.Common.{◌≡◌, ◌∙◌, refl, sym, ap, subst, ℕ, ◌+◌, ◌≤◌, Bool, true, false, List, [], ◌∷◌, ◌++◌, map, length, get_or, set, Some, None, arith}
use Rattle.std.specs.Prelude.{Option, is_none, option_map, count_by, if◌then◌else◌}
use Rattle.std.specs.List.{filter_map}
use Rattle.std.proofs.lemmas.List.{length-append}
use Rattle.std.proofs.lemmas.List.Sums.{sum_by-append, count_by-le-length}
use Rattle.eg_record.specs.declared.facts.Facts.{Facts}
use Rattle.eg_record.specs.declared.watch.Watch.{Watch}
use Rattle.eg_record.specs.declared.watch.Watch.TheVariants.{Mirror}
use Rattle.eg_record.specs.Detection.{watches, rank, is_watch}
use Rattle.eg_record.specs.Facts.{reaction_in}
use Rattle.eg_table.specs.declared.sweep_row.SweepRow.{SweepRow}
use Rattle.eg_table.specs.Sweep.{is_found_first, greatest_number, row_of}
use Rattle.eg_table.proofs.GreatestLemmas.{greater, greatest-more}

-- ---- one run more ----

-- a count with one thing more, which passes the test or doesn't
unfoldable counted : Bool → ℕ → ℕ
counted passes n = if passes then n + 1 else n

count-more : {X : Type 0} (passes : X → Bool) (xs : List X) (x : X) → count_by passes (xs ++ x ∷ []) ≡ counted (passes x) (count_by passes xs)
unfolding counted
count-more passes xs x = sum_by-append (λ y. if passes y then 1 else 0) xs (x ∷ []) ∙ one (passes x) (count_by passes xs)
  where
    one : (b : Bool) (n : ℕ) → n + (0 + (if b then 1 else 0)) ≡ (if b then n + 1 else n)
    one true n = omega arith
    one false n = omega arith

-- in how many runs nothing is found
abbrev none_in : List Facts → ℕ
none_in runs = count_by (λ facts. is_none facts.first) runs

-- in how many this watch is found first
abbrev first_in : List Facts → Watch → ℕ
first_in runs watch = count_by (is_found_first watch) runs

-- the row of some runs and one more, by what is found first in it and by its reaction
unfoldable row_with : List Facts → (first : Option (Watch × ℕ)) → (reaction : Option ℕ) → SweepRow
row_with runs first reaction = record {
  runs = length runs + 1;
  none = counted (is_none first) (none_in runs);
  by_watch = map (λ watch. counted (is_watch watch (option_map (λ detection. detection.0) first)) (first_in runs watch)) watches;
  reaction = greater (greatest_number (filter_map reaction_in runs)) reaction;
}

row-more : (runs : List Facts) (facts : Facts) → row_of (runs ++ facts ∷ []) ≡ row_with runs facts.first (reaction_in facts)
unfolding row_of row_with is_found_first
row-more runs facts = λ i. record {
  runs = length-append runs (facts ∷ []) i;
  none = count-more (λ facts. is_none facts.first) runs facts i;
  by_watch = map (λ watch. count-more (is_found_first watch) runs facts i) watches;
  reaction = greatest-more reaction_in runs facts i;
}

-- ---- a row that is changed ----

-- with one run more in which nothing is found
with_none : SweepRow → Facts → SweepRow
with_none row facts = record row { runs = row.runs + 1; none = row.none + 1; reaction = greater row.reaction (reaction_in facts) }

with_none-row : (runs : List Facts) (facts : Facts) → with_none (row_of runs) facts ≡ row_with runs None (reaction_in facts)
unfolding with_none row_of row_with counted is_watch
with_none-row runs facts = refl

pub row-none : (old : SweepRow) (runs : List Facts) (facts : Facts) → old ≡ row_of runs → facts.first ≡ None →
    record old { runs = old.runs + 1; none = old.none + 1; reaction = greater old.reaction (reaction_in facts) } ≡ row_of (runs ++ facts ∷ [])
unfolding with_none
row-none old runs facts are none = ap (λ row. with_none row facts) are ∙ with_none-row runs facts
    ∙ ap (λ first. row_with runs first (reaction_in facts)) (sym none) ∙ sym (row-more runs facts)

-- with one more in which this watch is found first
with_first : SweepRow → Watch → Facts → SweepRow
with_first row watch facts = record row {
  runs = row.runs + 1;
  by_watch = set row.by_watch (rank watch) (get_or row.by_watch (rank watch) 0 + 1);
  reaction = greater row.reaction (reaction_in facts);
}

with_first-row : (runs : List Facts) (watch : Watch) (tick : ℕ) (facts : Facts) → with_first (row_of runs) watch facts ≡ row_with runs (Some (watch, tick)) (reaction_in facts)
unfolding with_first row_of row_with counted is_watch rank
with_first-row runs Mirror tick facts = refl
with_first-row runs _ tick facts = refl

pub row-found : (old : SweepRow) (runs : List Facts) (facts : Facts) (watch : Watch) (tick : ℕ) →
    old ≡ row_of runs → facts.first ≡ Some (watch, tick) →
    record old {
      runs = old.runs + 1;
      by_watch = set old.by_watch (rank watch) (get_or old.by_watch (rank watch) 0 + 1);
      reaction = greater old.reaction (reaction_in facts);
    } ≡ row_of (runs ++ facts ∷ [])
unfolding with_first
row-found old runs facts watch tick are found = ap (λ row. with_first row watch facts) are ∙ with_first-row runs watch tick facts
    ∙ ap (λ first. row_with runs first (reaction_in facts)) (sym found) ∙ sym (row-more runs facts)

-- ---- no count is more than that of the runs ----

pub row-runs : (old : SweepRow) (runs : List Facts) → old ≡ row_of runs → old.runs ≡ length runs
unfolding row_of
row-runs old runs are = ap (λ (row : SweepRow). row.runs) are

pub none-most : (old : SweepRow) (runs : List Facts) → old ≡ row_of runs → old.none ≤ length runs
unfolding row_of
none-most old runs are = subst (λ (row : SweepRow). row.none ≤ length runs) (sym are) (count_by-le-length (λ facts. is_none facts.first) runs)

first-most : (runs : List Facts) (watch : Watch) → get_or (row_of runs).by_watch (rank watch) 0 ≤ length runs
unfolding row_of rank
first-most runs Mirror = count_by-le-length (is_found_first Mirror) runs
first-most runs _ = count_by-le-length (is_found_first _) runs

pub watch-most : (old : SweepRow) (runs : List Facts) (watch : Watch) → old ≡ row_of runs → get_or old.by_watch (rank watch) 0 ≤ length runs
watch-most old runs watch are = subst (λ (row : SweepRow). get_or row.by_watch (rank watch) 0 ≤ length runs) (sym are) (first-most runs watch)
