-- Misses that are far apart never cut: by the rows of a history, and of the record of a run on the bench.
use Rattle.std.proofs.Common.{append_assoc, ◌≡◌, ℕ, suc, ◌+◌, ◌≤◌, length, length-append, arith, Bool, true, false, not, List, [], ◌∷◌, ◌++◌, All, map, refl, sym, ap, ap₂, ◌∙◌, subst}
use Rattle.std.specs.List.{list_any}
use Rattle.std.proofs.lemmas.List.Elements.{All-head, All-tail}
use Rattle.std.proofs.lemmas.Bool.{true≢false, false_from_ne_true, or_from, or_parts}
use Rattle.eg_torque.specs.declared.ramp.TheConstants.{NO_RAMP}
use Rattle.eg_values.specs.Calibration.{IsAccepted}
use Rattle.eg_plant.specs.PlantParts.{PlantParts}
use Rattle.eg_record.specs.declared.row.Row.{Row}
use Rattle.eg_record.specs.Excess.{full_excess}
use Rattle.eg_model.specs.History.{Setting, Tick, Moment}
use Rattle.eg_model.specs.Signals.{tripped}
use Rattle.eg_model.specs.Paths.{latch2}
use Rattle.eg_model.specs.Moments.{moment, moments_of}
use Rattle.eg_model.specs.Rows.{row_of}
use Rattle.eg_model.specs.Premises.{AreProper, Follows, full_excesses}
use Rattle.eg_model.specs.Engines.{BenchEngine, KeepsBenchLaws, IsOneLoad, ShowsOneLoad}
use Rattle.eg_laws.specs.Availability.{IsSpacedLapse, has_tripped, StaysAvailable, AvailableIfSpaced, RecordsStayAvailable}
use Rattle.eg_model.proofs.TickLemmas.{length-moments, tripped_on, fields}
use Rattle.eg_model.proofs.Silence.{latch2-cons}
use Rattle.eg_model.proofs.SpanRows.{follows-end, length-rows_after, SpanRows, RowAfter, row_on, all_rows, LastTick, last_tick, bits_after, full_unnumbered}
use Rattle.eg_model.proofs.RecordSpans.{SpanTo}
use Rattle.eg_model.proofs.RecordLaws.{each_drive, proper_span, loads_in}
use Rattle.eg_laws.proofs.TripRows.{tripped_rows, rows-cons}
use Rattle.eg_laws.proofs.MissVerdicts.{spaced_up_to}
use Rattle.eg_laws.proofs.AvailabilityLaws.{keeps_path_2, path_2_conducts, trips_alone_cut, no_trip_comes}

-- ---- by the rows of a history ----

none_set : (bit : Row → Bool) (rows : List Row) → All (λ row. bit row ≡ false) rows → list_any (λ b. b) (map bit rows) ≡ false
none_set bit [] all = refl
none_set bit (row ∷ rows) all = or_from _ _ (All-head (λ r. bit r ≡ false) row rows all)
    (none_set bit rows (All-tail (λ r. bit r ≡ false) row rows all))

length-rows : (s : Setting) (start : ℕ) (h : List Tick) → length (SpanRows s start h) ≡ length h
unfolding moments_of
length-rows s start h = length-rows_after start (moments_of s h) ∙ length-moments s h

module _ (s : Setting) (start : ℕ) (h : List Tick) (accepted : IsAccepted s.cal) (lapse : IsSpacedLapse s start (start + length h))
    (follows : Follows s.fault start h) where
  -- the misses are as far apart at the earliest ticks of it
  spaced_in : (before : List Tick) → length before ≤ length h → IsSpacedLapse s start (start + length before)
  spaced_in before l = spaced_up_to s start (start + length h) (start + length before) (omega (arith, l)) lapse

  at_within : (later before : List Row) (row : Row) → SpanRows s start h ≡ later ++ row ∷ before → (at : LastTick s start row before) →
      suc (length at.past) ≤ length h
  at_within later before row e at = omega (
    arith,
    ap length e,
    length-append later (row ∷ before),
    ap length at.before_are,
    length-rows s start h,
    length-rows s start at.past,
  )

  answered_rows : (later before : List Row) (row : Row) → SpanRows s start h ≡ later ++ row ∷ before →
      has_tripped (row ∷ before) ≡ false → row.found.answers ≡ false
  unfolding moments_of
  answered_rows later before row e none = ap (λ (r : Row). r.found.answers) at.row_is ∙ unfound
    where
      at : LastTick s start row before
      at = last_tick s start h follows later before row e

      past : List Moment
      past = moments_of s at.past

      now : Moment
      now = moment s at.tick.effects at.tick.entry past

      rows_are : SpanRows s start (at.tick ∷ at.past) ≡ row ∷ before
      rows_are = rows-cons s start at.tick at.past ∙ sym (ap₂ (λ r rs. r ∷ rs) at.row_is at.before_are)

      untripped : tripped (moments_of s (at.tick ∷ at.past)) ≡ false
      untripped = sym (tripped_rows s start (at.tick ∷ at.past)) ∙ ap has_tripped rows_are ∙ none

      closed : latch2 (now ∷ past) ≡ false
      closed = keeps_path_2 s accepted start (at.tick ∷ at.past) (spaced_in (at.tick ∷ at.past) (at_within later before row e at)) at.follows untripped

      unfound : (RowAfter s start at.tick at.past).found.answers ≡ false
      unfound = unfold row_of in (fields s at.tick.effects at.tick.entry past).answers
          ∙ (or_parts now.confirms now.opens (or_parts _ (latch2 past) (sym (latch2-cons now past) ∙ closed)).0).0

  conducts_rows : (later before : List Row) (row : Row) → SpanRows s start h ≡ later ++ row ∷ before →
      has_tripped before ≡ false → row.path2 ≡ true
  conducts_rows later before row e none = ap (λ (r : Row). r.path2) at.row_is ∙ path_2
    where
      at : LastTick s start row before
      at = last_tick s start h follows later before row e

      untripped : tripped (moments_of s at.past) ≡ false
      untripped = sym (tripped_rows s start at.past) ∙ ap has_tripped (sym at.before_are) ∙ none

      path_2 : (RowAfter s start at.tick at.past).path2 ≡ true
      path_2 = unfold row_of in path_2_conducts s accepted start at.past at.tick
          (spaced_in at.past (omega (arith, at_within later before row e at))) at.follows untripped

  cut_rows : (later before : List Row) (row : Row) → SpanRows s start h ≡ later ++ row ∷ before → row.on ≡ not (has_tripped before)
  cut_rows later before row e = ap (λ (r : Row). r.on) at.row_is ∙ row_on s start at.tick at.past
      ∙ trips_alone_cut s accepted start at.past at.tick (spaced_in at.past (omega (arith, at_within later before row e at))) at.follows
      ∙ ap not (sym (ap has_tripped at.before_are ∙ tripped_rows s start at.past))
    where
      at : LastTick s start row before
      at = last_tick s start h follows later before row e

  stay_available : AreProper s h → All (λ x. IsOneLoad x.entry.shown) h → StaysAvailable s.cal.rules (SpanRows s start h)
  stay_available proper loads = record { answered = answered_rows; conducts = conducts_rows; cut_by_trips = cut_rows; stays_on = stays_on }
    where
      bit : Row → Bool
      bit = full_excess s.cal.rules.kt s.cal.rules.threshold

      untripped : s.cal.rules.fall ≡ NO_RAMP → All (λ row. bit row ≡ false) (SpanRows s start h) →
          tripped (moments_of s h) ≡ false
      untripped no_ramp none = no_trip_comes s accepted no_ramp lapse.lapse start h follows proper loads
          (unfold full_excesses in subst (λ bits. list_any (λ b. b) bits ≡ false)
          (bits_after bit (full_unnumbered s.cal.rules.kt s.cal.rules.threshold) s start h) (none_set bit (SpanRows s start h) none))

      on_at_each : tripped (moments_of s h) ≡ false → (newer : List Tick) (x : Tick) (before : List Tick) → h ≡ newer ++ x ∷ before →
          (RowAfter s start x before).on ≡ true
      on_at_each quiet newer x before whole = row_on s start x before
          ∙ trips_alone_cut s accepted start before x (spaced_in before (omega (arith, ap length whole, length-append newer (x ∷ before))))
          (follows-end s.fault start newer (x ∷ before) (subst (Follows s.fault start) whole follows))
          ∙ ap not (false_from_ne_true _ (λ u. true≢false (sym (tripped_on s (newer ++ x ∷ []) before u) ∙ at_end)))
        where
          at_end : tripped (moments_of s ((newer ++ x ∷ []) ++ before)) ≡ false
          at_end = subst (λ g. tripped (moments_of s g) ≡ false) (whole ∙ sym (append_assoc newer (x ∷ []) before)) quiet

      stays_on : s.cal.rules.fall ≡ NO_RAMP → All (λ row. bit row ≡ false) (SpanRows s start h) →
          All (λ row. row.on ≡ true) (SpanRows s start h) × (has_tripped (SpanRows s start h) ≡ false)
      stays_on no_ramp none = (
        all_rows (λ row. row.on ≡ true) s start h (on_at_each (untripped no_ramp none)),
        tripped_rows s start h ∙ untripped no_ramp none,
      )

-- ---- by the rows of a record ----

pub records_stay_available : {E : Type 0} {b : BenchEngine E} {Keeps : PlantParts → E → Type 0} → KeepsBenchLaws b Keeps → ShowsOneLoad b →
    RecordsStayAvailable b
records_stay_available {b = b} keeps once r run valid = each_drive b (AvailableIfSpaced r.setting) r (λ start count span is lapse.
    stay_available r.setting start (SpanTo b r count) run.accepted
    (subst (λ n. IsSpacedLapse r.setting start (start + n)) (length-rows r.setting start (SpanTo b r count)) lapse) is.follows
    (proper_span keeps r run valid start count span is) (loads_in keeps once r count))
