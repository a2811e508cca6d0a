-- The first detection and the first tick at which the stages are off, in words and as they are computed.
use Rattle.std.proofs.Common.{◌≡◌, ◌∙◌, ◌<◌, ◌⊎◌, ◌&&◌, not, inl, inr, List, [], ◌∷◌, ℕ, Bool, true, false, None, Some, refl, sym, ap, ap₂, subst}
use Rattle.std.specs.Prelude.{Option, IsTrue, option_map, if◌then◌else◌}
use Rattle.std.proofs.lemmas.List.Elements.{All-weaker, All-head, All-tail}
use Rattle.std.proofs.lemmas.Bool.{false_from_ne_true, both_ways, false≢true}
use Rattle.std.proofs.lemmas.Option.{none-some, same_Some, some_pair_parts}
use Rattle.eg_record.specs.declared.row.Row.{Row}
use Rattle.eg_num.specs.declared.watches.Watches.{Watches}
use Rattle.eg_record.specs.declared.watch.Watch.{Watch}
use Rattle.eg_record.specs.declared.watch.Watch.TheVariants.{Mirror, Pedal, Plate, Load, Speed, Torque, Answers, Start}
use Rattle.std.specs.List.{All}
use Rattle.eg_record.specs.Rows.{first_given}
use Rattle.eg_record.specs.Detection.{is_found, first_watch, detected_at, first_detection, cutting, cutting_at, FindsNothing, IsDetectedFirst, DetectionLaw}
use Rattle.eg_record.specs.Stages.{is_off, off_at, first_off, IsOnOrTested, IsOffFirst, OffLaw}
use Rattle.eg_record.proofs.FirstLemmas.{off_at-none, off_at-off, detected_at-none, detected_at-found}
use Rattle.eg_record.proofs.WatchLemmas.{first_watch-some, first_watch-none, first_watch-nothing, first_watch-is}
use Rattle.eg_record.proofs.GivenLemmas.{option_or-some, IsGivenFirst, first_given-none, none_given, first_given-some, given_first}

-- ---- the first detection ----

-- nothing is detected at a row that finds nothing, and the other way
nothing_detected : (row : Row) → FindsNothing row → detected_at row ≡ None
nothing_detected row nothing = detected_at-none row (first_watch-nothing row.found (λ w. false_from_ne_true (is_found row.found w) (nothing w)))

finds_nothing : (row : Row) → detected_at row ≡ None → FindsNothing row
unfolding detected_at
finds_nothing row none w found = both_ways (is_found row.found w) (first_watch-none row.found (no_watch (first_watch row.found) none) w) found
  where
    no_watch : (first : Option Watch) → option_map {U = Watch × ℕ} (λ watch. (watch, row.tick)) first ≡ None → first ≡ None
    no_watch None e = refl
    no_watch (Some v) e = absurd (none-some (v, row.tick) (sym e))

-- what is detected is the first watch, and the tick of the row
detected_parts : (row : Row) (w : Watch) (tick : ℕ) → detected_at row ≡ Some (w, tick) → (first_watch row.found ≡ Some w) × (row.tick ≡ tick)
unfolding detected_at
detected_parts row w tick detected = parts (first_watch row.found) detected
  where
    parts : (first : Option Watch) → option_map {U = Watch × ℕ} (λ watch. (watch, row.tick)) first ≡ Some (w, tick) → (first ≡ Some w) × (row.tick ≡ tick)
    parts None e = absurd (none-some (w, tick) e)
    parts (Some v) e = let pair = some_pair_parts v w row.tick tick e in (ap Some pair.0, pair.1)

-- what the words say is what the first row gives
given_detection : (rows : List Row) (w : Watch) (tick : ℕ) → IsDetectedFirst rows w tick → IsGivenFirst detected_at rows (w, tick)
given_detection rows w tick first = record {
  row = first.row;
  stands = first.stands;
  here = detected_at-found first.row w (first_watch-is first.row.found w first.found (λ v before. false_from_ne_true (is_found first.row.found v) (first.none_before v before))) ∙ ap (λ (t : ℕ). Some (w, t)) first.at_tick;
  none_earlier = All-weaker (λ other. other.tick < tick → FindsNothing other) (λ other. other.tick < first.row.tick → detected_at other ≡ None)
      (λ other nothing earlier. nothing_detected other (nothing (subst (λ (t : ℕ). other.tick < t) first.at_tick earlier))) rows first.none_earlier;
}

detection_given : (rows : List Row) (w : Watch) (tick : ℕ) → IsGivenFirst detected_at rows (w, tick) → IsDetectedFirst rows w tick
detection_given rows w tick given =
    let parts = detected_parts given.row w tick given.here in
    let some = first_watch-some given.row.found w parts.0 in
    record {
      row = given.row;
      stands = given.stands;
      at_tick = parts.1;
      found = some.0;
      none_earlier = All-weaker (λ other. other.tick < given.row.tick → detected_at other ≡ None) (λ other. other.tick < tick → FindsNothing other)
          (λ other none earlier. finds_nothing other (none (subst (λ (t : ℕ). other.tick < t) (sym parts.1) earlier))) rows given.none_earlier;
      none_before = λ v before found. both_ways (is_found given.row.found v) (some.1 v before) found;
    }

pub detection_law : DetectionLaw
unfolding first_detection
detection_law rows whole None = (
  λ none. sym (first_given-none detected_at rows (All-weaker FindsNothing (λ row. detected_at row ≡ None) nothing_detected rows none)),
  λ none. All-weaker (λ row. detected_at row ≡ None) FindsNothing finds_nothing rows (none_given detected_at rows (sym none)),
)
detection_law rows whole (Some d) = (
  λ first. sym (first_given-some detected_at rows d whole (given_detection rows d.0 d.1 first)),
  λ first. detection_given rows d.0 d.1 (given_first detected_at rows d whole (sym first)),
)

-- where nothing is detected at a row, no watch that cuts is found there
pub nothing_cuts : (row : Row) → detected_at row ≡ None → detected_at (cutting_at row) ≡ None
unfolding cutting_at is_found cutting
nothing_cuts row none = nothing_detected (cutting_at row) (λ w found. finds_nothing row none w (is_cutting row.found w found))
  where
    is_cutting : (found : Watches) (w : Watch) → is_found (cutting found) w ≡ true → is_found found w ≡ true
    is_cutting found Mirror is = is
    is_cutting found Pedal is = absurd (false≢true is)
    is_cutting found Plate is = is
    is_cutting found Load is = is
    is_cutting found Speed is = is
    is_cutting found Torque is = is
    is_cutting found Answers is = is
    is_cutting found Start is = absurd (false≢true is)

-- a watch that is found at no row isn't the first
pub first_detection-never : (rows : List Row) (w : Watch) → All (λ row. is_found row.found w ≡ false) rows → (tick : ℕ) → first_detection rows ≡ Some (w, tick) → ⊥
unfolding first_detection first_given
first_detection-never [] w never tick first = none-some (w, tick) first
first_detection-never (row ∷ before) w never tick first = elim (option_or-some (first_given detected_at before) (detected_at row) (w, tick) first) [
  | inl earlier ↦ first_detection-never before w (All-tail (λ r. is_found r.found w ≡ false) row before never) tick earlier
  | inr now ↦ both_ways (is_found row.found w) (All-head (λ r. is_found r.found w ≡ false) row before never)
      (first_watch-some row.found w (detected_parts row w tick now.1).0).0
]

-- ---- the first tick at which the stages are off ----

-- a row at which the stages are on or a test is running gives nothing, and the other way
nothing_off : (row : Row) → IsOnOrTested row → off_at row ≡ None
unfolding is_off
nothing_off row (inl on) = off_at-none row (ap (λ b. not b && not row.testing) on)
nothing_off row (inr tested) = off_at-none row (neither row.on row.testing tested)
  where
    neither : (on testing : Bool) → testing ≡ true → (not on && not testing) ≡ false
    neither true testing e = refl
    neither false testing e = ap not e

on_or_tested : (row : Row) → off_at row ≡ None → IsOnOrTested row
unfolding off_at is_off
on_or_tested row none = either row.on row.testing none
  where
    either : (on testing : Bool) → (if not on && not testing then Some row.tick else None) ≡ None → IsTrue on ⊎ IsTrue testing
    either true testing e = inl refl
    either false true e = inr refl
    either false false e = absurd (none-some row.tick (sym e))

goes_off : (row : Row) (tick : ℕ) → off_at row ≡ Some tick → (row.on ≡ false) × (row.testing ≡ false) × (row.tick ≡ tick)
unfolding off_at is_off
goes_off row tick some = off row.on row.testing some
  where
    off : (on testing : Bool) → (if not on && not testing then Some row.tick else None) ≡ Some tick → (on ≡ false) × (testing ≡ false) × (row.tick ≡ tick)
    off true testing e = absurd (none-some tick e)
    off false true e = absurd (none-some tick e)
    off false false e = (refl, refl, same_Some row.tick tick e)

is_off-parts : (row : Row) → row.on ≡ false → row.testing ≡ false → is_off row ≡ true
unfolding is_off
is_off-parts row off untested = ap₂ (λ on testing. not on && not testing) off untested

given_off : (rows : List Row) (tick : ℕ) → IsOffFirst rows tick → IsGivenFirst off_at rows tick
given_off rows tick first = record {
  row = first.row;
  stands = first.stands;
  here = off_at-off first.row (is_off-parts first.row first.off first.untested) ∙ ap Some first.at_tick;
  none_earlier = All-weaker (λ other. other.tick < tick → IsOnOrTested other) (λ other. other.tick < first.row.tick → off_at other ≡ None)
      (λ other on earlier. nothing_off other (on (subst (λ (t : ℕ). other.tick < t) first.at_tick earlier))) rows first.none_earlier;
}

off_given : (rows : List Row) (tick : ℕ) → IsGivenFirst off_at rows tick → IsOffFirst rows tick
off_given rows tick given =
    let parts = goes_off given.row tick given.here in
    record {
      row = given.row;
      stands = given.stands;
      at_tick = parts.2;
      off = parts.0;
      untested = parts.1;
      none_earlier = All-weaker (λ other. other.tick < given.row.tick → off_at other ≡ None) (λ other. other.tick < tick → IsOnOrTested other)
          (λ other none earlier. on_or_tested other (none (subst (λ (t : ℕ). other.tick < t) (sym parts.2) earlier))) rows given.none_earlier;
    }

pub off_law : OffLaw
unfolding first_off
off_law rows whole None = (
  λ on. sym (first_given-none off_at rows (All-weaker IsOnOrTested (λ row. off_at row ≡ None) nothing_off rows on)),
  λ none. All-weaker (λ row. off_at row ≡ None) IsOnOrTested on_or_tested rows (none_given off_at rows (sym none)),
)
off_law rows whole (Some tick) = (
  λ first. sym (first_given-some off_at rows tick whole (given_off rows tick first)),
  λ first. off_given rows tick (given_first off_at rows tick whole (sym first)),
)
