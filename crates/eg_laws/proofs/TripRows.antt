-- Whether a trip has come, by the rows of a history.
use Rattle.std.proofs.Common.{◌≡◌, ℕ, ◌||◌, [], ◌∷◌, List, refl, sym, ap₂, ◌∙◌}
use Rattle.eg_model.specs.History.{Setting, Tick}
use Rattle.eg_model.specs.Signals.{tripped}
use Rattle.eg_model.specs.Moments.{moment, moments_of}
use Rattle.eg_model.specs.Rows.{row_of}
use Rattle.eg_laws.specs.Availability.{trips, has_tripped}
use Rattle.eg_model.proofs.TickLemmas.{tripped-cons, fields}
use Rattle.eg_model.proofs.SpanRows.{rows_after, SpanRows, RowAfter}

-- the row of a tick tells whether a trip comes at it
pub trips_row : (s : Setting) (start : ℕ) (x : Tick) (h : List Tick) →
    trips (RowAfter s start x h).found ≡ (moment s x.effects x.entry (moments_of s h)).trip
unfolding trips row_of
trips_row s start x h = sym (fields s x.effects x.entry (moments_of s h)).trip

-- the rows tell whether a trip has come
pub tripped_rows : (s : Setting) (start : ℕ) (h : List Tick) → has_tripped (SpanRows s start h) ≡ tripped (moments_of s h)
unfolding has_tripped rows_after moments_of
tripped_rows s start [] = unfold tripped in refl
tripped_rows s start (x ∷ h) = ap₂ (λ a b. a || b) (trips_row s start x h) (tripped_rows s start h)
    ∙ sym (tripped-cons (moment s x.effects x.entry (moments_of s h)) (moments_of s h))

pub rows-cons : (s : Setting) (start : ℕ) (x : Tick) (h : List Tick) →
    SpanRows s start (x ∷ h) ≡ RowAfter s start x h ∷ SpanRows s start h
unfolding rows_after moments_of
rows-cons s start x h = refl
