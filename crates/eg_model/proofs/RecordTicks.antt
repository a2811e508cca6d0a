-- The record of a run on the bench, whatever engine it is of: it is a history from tick 0, and its rows are
-- numbered.
use Rattle.std.proofs.Common.{◌≡◌, ℕ, zero, suc, ◌<◌, List, [], ◌∷◌, ◌++◌, All, length, refl, sym, ap, ◌∙◌, arith, subst}
use Rattle.std.proofs.lemmas.List.Elements.{All-cons, All-nil}
use Rattle.eg_record.specs.declared.row.Row.{Row}
use Rattle.eg_record.specs.Rows.{AreRows}
use Rattle.eg_model.specs.Spans.{moments, next_after}
use Rattle.eg_model.specs.Engines.{BenchEngine}
use Rattle.eg_model.specs.Bench.{Run, entry_at, moments_to, entries_to}
use Rattle.eg_model.specs.Rows.{row_of, rows_of, record_rows}
use Rattle.eg_model.specs.Records.{row_at, rows_to, RecordsAreHistories, RecordsAreRows}
use Rattle.eg_model.proofs.TickLemmas.{parts_of, nothing}

module _ {E : Type 0} (b : BenchEngine E) where
  -- ---- the record is a history ----

  pub length-entries : (r : Run) (n : ℕ) → length (entries_to b r n) ≡ n
  unfolding entries_to
  length-entries r zero = refl
  length-entries r (suc t) = ap suc (length-entries r t)

  pub records_are_histories : RecordsAreHistories b
  unfolding moments_to entries_to moments
  records_are_histories r zero = refl
  records_are_histories r (suc t) = ap (λ past. next_after r.setting (entry_at b r t (moments_to b r t)) past ∷ past)
      (records_are_histories r t)

  -- ---- its rows ----

  pub no_rows : (r : Run) → rows_to b r 0 ≡ []
  no_rows r = unfold rows_to rows_of moments_to in refl

  pub length-moments_to : (r : Run) (n : ℕ) → length (moments_to b r n) ≡ n
  unfolding moments_to
  length-moments_to r zero = refl
  length-moments_to r (suc t) = ap suc (length-moments_to r t)

  pub rows_to-suc : (r : Run) (t : ℕ) → rows_to b r (suc t) ≡ row_at b r t ∷ rows_to b r t
  unfolding rows_to rows_of moments_to row_at
  rows_to-suc r t = ap (λ n. row_of n (next_after r.setting (entry_at b r t (moments_to b r t)) (moments_to b r t))
      ∷ rows_of (moments_to b r t)) (length-moments_to r t)

  pub row_tick : (r : Run) (t : ℕ) → (row_at b r t).tick ≡ t
  row_tick r t = unfold row_at row_of in refl

  length-rows_to : (r : Run) (n : ℕ) → length (rows_to b r n) ≡ n
  length-rows_to r zero = ap length (no_rows r)
  length-rows_to r (suc t) = ap length (rows_to-suc r t) ∙ ap suc (length-rows_to r t)

  are_rows : (r : Run) (n : ℕ) → AreRows (rows_to b r n)
  are_rows r zero = subst AreRows (sym (no_rows r)) tt
  are_rows r (suc t) = subst AreRows (sym (rows_to-suc r t))
      (row_tick r t ∙ sym (length-rows_to r t), are_rows r t)

  pub records_are_rows : RecordsAreRows b
  records_are_rows r n = (are_rows r n, length-rows_to r n)

  -- P of each of the first n rows, by their ticks
  pub all_rows : (P : Row → Type 0) (r : Run) (n : ℕ) → ((t : ℕ) → t < n → P (row_at b r t)) → All P (rows_to b r n)
  all_rows P r zero p = subst (All P) (sym (no_rows r)) (All-nil P)
  all_rows P r (suc t) p = subst (All P) (sym (rows_to-suc r t))
      (All-cons P (row_at b r t) (rows_to b r t) (p t (omega arith)) (all_rows P r t (λ u l. p u (omega arith))))

  -- the rows of the record are those of all its ticks
  pub record_rows-is : (r : Run) → record_rows b r ≡ rows_to b r (length r.drive)
  unfolding record_rows rows_to
  record_rows-is r = refl

  -- the rows before a tick are those of a run that ends there
  pub front : (r : Run) (n : ℕ) (later before : List Row) → rows_to b r n ≡ later ++ before → before ≡ rows_to b r (length before)
  front r n [] before e = sym e ∙ ap (rows_to b r) (sym long)
    where
      long : length before ≡ n
      long = ap length (sym e) ∙ (records_are_rows r n).1
  front r zero (row ∷ later) before e = absurd (nothing (sym (no_rows r) ∙ e))
  front r (suc n) (row ∷ later) before e = front r n later before (parts_of (sym (rows_to-suc r n) ∙ e)).1

  -- its rows before a tick, as those of what came in
  pub rows_of_entries : (r : Run) (later before : List Row) → record_rows b r ≡ later ++ before →
      rows_of (moments r.setting (entries_to b r (length before))) ≡ before
  rows_of_entries r later before e = ap rows_of (sym (records_are_histories r (length before)))
      ∙ (unfold rows_to in sym (front r (length r.drive) later before (sym (record_rows-is r) ∙ e)))
