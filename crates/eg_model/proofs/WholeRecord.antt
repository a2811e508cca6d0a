-- A whole record: its rows, newest first and in the order of time, and the drive that it was made of.
use Rattle.std.proofs.Common.{◌≡◌, ◌∙◌, sym, ap, ap₂, subst, ℕ, zero, suc, ◌+◌, ◌<◌, inl, inr, List, [], ◌∷◌, ◌++◌, All, length, arith}
use Rattle.std.proofs.lemmas.Bool.{cases_lt}
use Rattle.std.specs.Prelude.{reverse}
use Rattle.std.proofs.lemmas.List.{reverse-append, reverse-reverse}
use Rattle.std.proofs.lemmas.List.Elements.{All-from_get_or}
use Rattle.eg_num.specs.Drive.{IsDrive}
use Rattle.eg_record.specs.declared.row.Row.{Row}
use Rattle.eg_record.specs.Rows.{AreRows}
use Rattle.eg_model.specs.Premises.{IsProperRun}
use Rattle.eg_model.specs.Engines.{BenchEngine}
use Rattle.eg_model.specs.Bench.{Run, no_drive, drive_at, entry_at, entries_to}
use Rattle.eg_model.specs.Rows.{record_rows}
use Rattle.eg_model.specs.Records.{row_at, rows_to}
use Rattle.eg_model.proofs.RecordTicks.{no_rows, rows_to-suc, records_are_rows, record_rows-is}

module _ {E : Type 0} (b : BenchEngine E) where
  -- ---- the rows ----

  pub are_rows : (r : Run) → AreRows (record_rows b r)
  are_rows r = subst AreRows (sym (record_rows-is b r)) (records_are_rows b r (length r.drive)).0

  -- ---- the rows in the order of time ----

  pub newest_first : (r : Run) (rows : List Row) → rows ≡ reverse (record_rows b r) → record_rows b r ≡ reverse rows
  newest_first r rows are = sym (ap reverse are ∙ reverse-reverse (record_rows b r))

  pub rows-none : (r : Run) → [] ≡ reverse (rows_to b r 0)
  rows-none r = ap reverse (sym (no_rows b r))

  -- one row more
  pub rows-suc : (r : Run) (t : ℕ) (rows : List Row) (row : Row) → rows ≡ reverse (rows_to b r t) → row ≡ row_at b r t →
      rows ++ row ∷ [] ≡ reverse (rows_to b r (t + 1))
  rows-suc r t rows row are is = ap₂ (λ before last. before ++ last ∷ []) are is
      ∙ sym (reverse-append (row_at b r t ∷ []) (rows_to b r t)) ∙ ap reverse (sym (rows_to-suc b r t)) ∙ ap (λ n. reverse (rows_to b r n)) (one_more t)
    where
      one_more : (t : ℕ) → suc t ≡ t + 1
      one_more t = omega arith

  -- ---- the drive ----

  -- where what comes in is proper, so is the drive row of each tick
  keeps_drive : (r : Run) (n : ℕ) → IsProperRun r.setting (entries_to b r n) → (t : ℕ) → t < n → IsDrive (drive_at r t)
  unfolding entries_to IsProperRun
  keeps_drive r zero proper t l = absurd (omega arith)
  keeps_drive r (suc n) proper t l = elim (cases_lt t n) [
    | inr now ↦ (let same : n ≡ t = omega arith in subst (λ k. IsDrive (drive_at r k)) same (unfold entry_at in proper.0.drive))
    | inl earlier ↦ keeps_drive r n proper.1 t earlier
  ]

  -- and the whole drive keeps its limits
  pub drive_keeps : (r : Run) → IsProperRun r.setting (entries_to b r (length r.drive)) → All IsDrive r.drive
  drive_keeps r proper = All-from_get_or IsDrive r.drive no_drive (λ t l. unfold drive_at in keeps_drive r (length r.drive) proper t l)
