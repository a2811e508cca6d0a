-- Runs whose drive rows never reset the unit: their rows are one drive span from tick 0 on. No start-up test runs in them, so that none fails.
use Rattle.std.proofs.Common.{◌≡◌, ◌∙◌, ◌≤◌, refl, sym, ap, subst, ℕ, zero, suc, true, false, List, [], ◌∷◌, All, length, arith}
use Rattle.std.specs.Prelude.{slice_index_or, ◌==◌}
use Rattle.std.proofs.lemmas.Bool.{ne_eqb}
use Rattle.std.proofs.lemmas.List.Elements.{All-nil, All-cons, All-head, All-tail}
use Rattle.eg_num.specs.Drive.{DriveRow}
use Rattle.eg_record.specs.declared.row.Row.{Row}
use Rattle.eg_record.specs.Spans.{IsDriveSpan}
use Rattle.eg_record.proofs.SpanLemmas.{drive_span-begins, drive_span-goes_on}
use Rattle.eg_model.specs.History.{Setting, Entry, Tick}
use Rattle.eg_model.specs.Paths.{is_testing, reads_back}
use Rattle.eg_model.specs.Moments.{moment, moment_in, moments_of}
use Rattle.eg_model.specs.Spans.{ticks}
use Rattle.eg_model.specs.Engines.{BenchEngine}
use Rattle.eg_model.specs.Bench.{Run, no_drive, drive_at, entry_at, moments_to, entries_to}
use Rattle.eg_model.specs.Rows.{row_of, rows_of, record_rows}
use Rattle.eg_model.proofs.RecordTicks.{records_are_histories}
use Rattle.eg_model.proofs.StartUpLaws.{runs_without_reset}

abbrev NeverResets : DriveRow → Type 0
NeverResets row = row.reset ≡ false

abbrev NeverFails : Row → Type 0
NeverFails row = row.found.start ≡ false

-- what holds of each item of a list and of what stands in its place past the end
pub all_or : {X : Type 0} (P : X → Type 0) (xs : List X) (i : ℕ) (d : X) → P d → All P xs →
    P (slice_index_or xs i d)
all_or P [] i d none all = none
all_or P (x ∷ xs) zero d none all = All-head P x xs all
all_or P (x ∷ xs) (suc i) d none all = all_or P xs i d none (All-tail P x xs all)

entries_never : {E : Type 0} (b : BenchEngine E) (r : Run) → All NeverResets r.drive → (n : ℕ) →
    All (λ (e : Entry). e.drive.reset ≡ false) (entries_to b r n)
unfolding entries_to
entries_never b r all zero = All-nil (λ (e : Entry). e.drive.reset ≡ false)
entries_never b r all (suc t) = All-cons (λ (e : Entry). e.drive.reset ≡ false) (entry_at b r t (moments_to b r t)) (entries_to b r t)
    (unfold entry_at drive_at no_drive in all_or NeverResets r.drive t no_drive refl all) (entries_never b r all t)

-- the row of a tick while the engine is driven, and what holds of each such row
abbrev driven_row : Setting → Tick → List Tick → Row
driven_row s x h = row_of (length (moments_of s h)) (moment s x.effects x.entry (moments_of s h))

each_driven : (P : Row → Type 0) (s : Setting) → ((x : Tick) (h : List Tick) → P (driven_row s x h)) → (h : List Tick) →
    All P (rows_of (moments_of s h))
unfolding rows_of moments_of
each_driven P s each [] = All-nil P
each_driven P s each (x ∷ h) = All-cons P (driven_row s x h) (rows_of (moments_of s h)) (each x h) (each_driven P s each h)

never_fails : (s : Setting) (x : Tick) (h : List Tick) → NeverFails (driven_row s x h)
unfolding row_of moment moment_in reads_back
never_fails s x h = refl

-- the rows of such a run are those of a history that is driven
pub driven_record : {E : Type 0} (b : BenchEngine E) (r : Run) → All NeverResets r.drive →
    record_rows b r ≡ rows_of (moments_of r.setting (ticks r.setting (entries_to b r (length r.drive))))
unfolding record_rows
driven_record b r all = ap rows_of (records_are_histories b r (length r.drive)
    ∙ runs_without_reset r.setting (entries_to b r (length r.drive)) (entries_never b r all (length r.drive)))

pub finds_no_start : {E : Type 0} (b : BenchEngine E) (r : Run) → All NeverResets r.drive → All NeverFails (record_rows b r)
finds_no_start b r all = subst (All NeverFails) (sym (driven_record b r all))
    (each_driven NeverFails r.setting (never_fails r.setting) (ticks r.setting (entries_to b r (length r.drive))))

-- ---- one drive span ----

-- no test is running at such a tick, and it is fresh where it is the first
driven-next : (s : Setting) (x : Tick) (h : List Tick) → rows_of (moments_of s (x ∷ h)) ≡ driven_row s x h ∷ rows_of (moments_of s h)
unfolding rows_of moments_of
driven-next s x h = refl

driven-untested : (s : Setting) (x : Tick) (h : List Tick) → (driven_row s x h).testing ≡ false
unfolding row_of moment moment_in is_testing
driven-untested s x h = refl

driven-fresh : (s : Setting) (x : Tick) (h : List Tick) → (driven_row s x h).fresh ≡ (length (moments_of s h) == 0)
unfolding row_of moment moment_in moments_of
driven-fresh s x h = refl

driven-first : (s : Setting) (x : Tick) → (driven_row s x []).fresh ≡ true
driven-first s x = driven-fresh s x [] ∙ (unfold moments_of in refl)

driven-later : (s : Setting) (x y : Tick) (h : List Tick) → (driven_row s x (y ∷ h)).fresh ≡ false
driven-later s x y h = driven-fresh s x (y ∷ h) ∙ ne_eqb (length (moments_of s (y ∷ h))) 0 (λ none. (unfold moments_of in omega (arith, none)))

undriven : (s : Setting) → rows_of (moments_of s []) ≡ []
unfolding rows_of moments_of
undriven s = refl

drive_rows : (s : Setting) (x : Tick) (h : List Tick) → IsDriveSpan (rows_of (moments_of s (x ∷ h)))
drive_rows s x [] = subst IsDriveSpan (sym (driven-next s x [] ∙ ap (λ rows. driven_row s x [] ∷ rows) (undriven s)))
    (drive_span-begins (driven_row s x []) (driven-first s x) (driven-untested s x []))
drive_rows s x (y ∷ h) = subst IsDriveSpan (sym (driven-next s x (y ∷ h)))
    (drive_span-goes_on (driven_row s x (y ∷ h)) (rows_of (moments_of s (y ∷ h))) (driven-later s x y h) (drive_rows s y h))

pub is_one_drive_span : {E : Type 0} (b : BenchEngine E) (r : Run) → All NeverResets r.drive → 1 ≤ length r.drive → IsDriveSpan (record_rows b r)
is_one_drive_span b r all some = subst IsDriveSpan (sym (driven_record b r all)) (go (length r.drive) some)
  where
    go : (n : ℕ) → 1 ≤ n → IsDriveSpan (rows_of (moments_of r.setting (ticks r.setting (entries_to b r n))))
    go zero none = absurd (omega arith)
    go (suc t) some = unfold entries_to ticks in drive_rows r.setting _ _

pub tests_never : {E : Type 0} (b : BenchEngine E) (r : Run) → All NeverResets r.drive → All (λ (row : Row). row.testing ≡ false) (record_rows b r)
tests_never b r all = subst (All (λ (row : Row). row.testing ≡ false)) (sym (driven_record b r all))
    (each_driven (λ (row : Row). row.testing ≡ false) r.setting (driven-untested r.setting) (ticks r.setting (entries_to b r (length r.drive))))
