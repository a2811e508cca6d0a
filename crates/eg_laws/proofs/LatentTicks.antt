-- Ticks that give level 2 nothing to find: its signals of the excess and of the pairs stay 0, and none of its watches is
-- found.
use Rattle.std.proofs.Common.{◌≡◌, ◌∙◌, refl, sym, ap, ap₂, subst, ℕ, ◌+◌, ◌≤◌, Bool, true, false, not, List, [], ◌∷◌, length, arith, inl, inr, Option, Some, None, IfSome, is_some, bit_xor}
use Rattle.std.specs.Prelude.{if◌then◌else◌}
use Rattle.std.specs.Option.{option_or}
use Rattle.std.specs.Int.Bits.{xor_zero_r}
use Rattle.std.proofs.lemmas.Bool.{cases_Bool, le-ltb, or_from, and_right}
use Rattle.eg_torque.specs.Excess.{is_excess}
use Rattle.eg_sensor.specs.Readings.{has_bit}
use Rattle.eg_answer.specs.Formulas.{permitted_torque, estimated_torque, excess_number, disagreeing_pairs}
use Rattle.eg_answer.specs.declared.formulas.TheConstants.{EXCESS_BIT}
use Rattle.eg_answer.specs.declared.modules.TheConstants.{PERMITTED, ACTUAL, EXCESS, PAIRS}
use Rattle.eg_values.specs.Calibration.{CalibrationParts, IsAccepted}
use Rattle.eg_fault.specs.Effects.{Effects}
use Rattle.eg_fault.specs.Faults.{IsListed}
use Rattle.eg_fault.specs.declared.class.Fault.{Fault}
use Rattle.eg_model.specs.History.{Setting, Tick, Drive, Moment, Signals}
use Rattle.eg_model.specs.Signals.{tripped, no_signals, last_signals, signal}
use Rattle.eg_model.specs.Detection.{fed_bits, pedal_bit, plate_bit, load_bit, speed_bit, torque_bit}
use Rattle.eg_model.specs.Paths.{reads_back}
use Rattle.eg_model.specs.Moments.{readings_at, moment, moments_of}
use Rattle.eg_model.specs.Premises.{Follows}
use Rattle.eg_model.specs.Reaction.{spoils_answers}
use Rattle.eg_model.specs.Seeing.{Runs, IsUndisturbed}
use Rattle.eg_laws.specs.Coverage.{spoils_at, silent_from, confirmed_at, SparesAnswers}
use Rattle.eg_model.proofs.TickLemmas.{Each, Pair, Pedal, Plate, Load, Speed, bit_of, found_by, Fields, fields, no_trip, tripped-cons}
use Rattle.eg_model.proofs.TripLemmas.{fed_bits-skip}
use Rattle.eg_model.proofs.Seeing.{signal_value}
use Rattle.eg_model.proofs.SharpCutLaw.{AllGood, none-cons, unfound_now}
use Rattle.eg_model.proofs.SpanRows.{rows_after, SpanRows}
use Rattle.eg_laws.proofs.PathLaws.{trips_row}
use Rattle.eg_laws.proofs.PeakLaws.{ramped-least}
use Rattle.eg_laws.proofs.SilentVerdicts.{found_exactly}

-- Level 2 runs as a whole or not at all, and undisturbed; no pair disagrees by what it reads, and whatever pedal it takes
-- there is no excess.
pub record GivesNothing (cal : CalibrationParts) (x : Tick) : Type 0 where
  pub runs : Bool
  pub ran : (i : ℕ) → x.effects.ran i ≡ runs
  pub unflipped : x.effects.flip ≡ None
  pub undisturbed : IsUndisturbed x.effects
  pub pairs : disagreeing_pairs cal.rules (readings_at cal x.effects x.entry) ≡ 0
  pub torque : (pedal : ℕ) → estimated_torque cal.rules (readings_at cal x.effects x.entry)
      ≤ permitted_torque cal.rules (readings_at cal x.effects x.entry) pedal + cal.rules.threshold

-- what is so after such ticks
pub record Still (past : List Moment) : Type 0 where
  pub excess : (last_signals past).excess ≡ 0
  pub pairs : (last_signals past).pairs ≡ 0
  pub fed : (p : Pair) → AllGood (fed_bits (bit_of p) past)
  pub fed_torque : AllGood (fed_bits torque_bit past)
  pub untripped : tripped past ≡ false

still_at_first : Still []
unfolding last_signals no_signals fed_bits AllGood tripped
still_at_first = record { excess = refl; pairs = refl; fed = λ p. tt; fed_torque = tt; untripped = refl }

-- a signal stays 0 where its module, if it runs, computes 0
stays_zero : (x : Effects) (past : List Moment) (i before value : ℕ) → x.flip ≡ None → x.disturbance i ≡ 0 → before ≡ 0 →
    (x.ran i ≡ true → tripped past ≡ false → value ≡ 0) → signal x past i before value ≡ 0
unfolding signal
stays_zero x past i before value unflipped even was now = rw (unflipped, even, was) (go (x.ran i) (tripped past) now)
  where
    go : (ran trip : Bool) → (ran ≡ true → trip ≡ false → value ≡ 0) →
        (if false then 0 else if not ran then 0 else if trip then 0 else bit_xor value 0) ≡ 0
    go false trip z = refl
    go true true z = refl
    go true false z = xor_zero_r value ∙ z refl refl

good-cons : (bit : Signals → Bool) (m : Moment) (past : List Moment) → bit m.signals ≡ false → AllGood (fed_bits bit past) →
    AllGood (fed_bits bit (m ∷ past))
good-cons bit m past none good = elim (cases_Bool m.feeds) [
  | inl feeds ↦ none-cons bit m past feeds none good
  | inr skips ↦ subst AllGood (sym (fed_bits-skip bit m past skips)) good
]

-- what isn't found at such a tick
pub record Unfound (m : Moment) : Type 0 where
  pub mirror : m.found.mirror ≡ false
  pub pairs : (p : Pair) → found_by p m.found ≡ false
  pub torque : m.found.torque ≡ false
  pub start : m.found.start ≡ false
  pub trip : m.trip ≡ false

module _ (s : Setting) (accepted : IsAccepted s.cal) (x : Tick) (past : List Moment) (g : GivesNothing s.cal x)
    (before : Still past) where
  abbrev m : Moment
  m = moment s x.effects x.entry past

  abbrev f : Fields Drive true s x.effects x.entry past m
  f = fields s x.effects x.entry past

  no_excess : (i : ℕ) → x.effects.ran i ≡ true → tripped past ≡ false →
      excess_number s.cal.rules m.signals.permitted m.signals.actual ≡ 0
  unfolding excess_number is_excess
  no_excess i ran trip = ap (λ b. if b then EXCESS_BIT else 0)
      (le-ltb (m.signals.permitted + s.cal.rules.threshold) m.signals.actual
      (within _ _ _ _ _ s.cal.rules.threshold (f.actual ∙ signal_value x.effects past ACTUAL _ _ runs g.undisturbed trip)
      (f.permitted ∙ signal_value x.effects past PERMITTED _ _ runs g.undisturbed trip)
      (ramped-least s.cal.rules.fall (last_signals past).permitted _) (g.torque m.signals.pedal)))
    where
      runs : Runs x.effects
      runs = record { ran = λ j. g.ran j ∙ sym (g.ran i) ∙ ran; unflipped = g.unflipped }

      within : (a p estimated allowed demand threshold : ℕ) → a ≡ estimated → p ≡ allowed → demand ≤ allowed →
          estimated ≤ demand + threshold → a ≤ p + threshold
      within a p estimated allowed demand threshold e f l k = omega arith

  excess_zero : m.signals.excess ≡ 0
  excess_zero = f.excess ∙ stays_zero x.effects past EXCESS (last_signals past).excess _ g.unflipped (g.undisturbed EXCESS)
      before.excess (λ ran trip. no_excess EXCESS ran trip)

  pairs_zero : m.signals.pairs ≡ 0
  pairs_zero = f.pairs ∙ stays_zero x.effects past PAIRS (last_signals past).pairs _ g.unflipped (g.undisturbed PAIRS)
      before.pairs (λ ran trip. g.pairs)

  pair_good : (p : Pair) → bit_of p m.signals ≡ false
  unfolding bit_of pedal_bit plate_bit load_bit speed_bit has_bit
  pair_good Pedal = ap (has_bit 1) pairs_zero
  pair_good Plate = ap (has_bit 2) pairs_zero
  pair_good Load = ap (has_bit 4) pairs_zero
  pair_good Speed = ap (has_bit 8) pairs_zero

  torque_good : torque_bit m.signals ≡ false
  unfolding torque_bit has_bit
  torque_good = ap (has_bit 1) excess_zero

  pub unfound_at : Unfound m
  unfound_at = record {
    mirror = mirror;
    pairs = pairs;
    torque = torque;
    start = f.start
        ∙ (unfold reads_back in refl);
    trip = no_trip f mirror pairs torque;
  }
    where
      mirror : m.found.mirror ≡ false
      mirror = f.mirror ∙ ap (λ flip. is_some flip) g.unflipped

      pairs : (p : Pair) → found_by p m.found ≡ false
      pairs p = f.pair p ∙ unfound_now s.cal.rules.pair (bit_of p) m.feeds m.signals past
          (let l = accepted.pair.3 in omega (arith, l)) (pair_good p) (before.fed p)

      torque : m.found.torque ≡ false
      torque = f.torque ∙ unfound_now s.cal.rules.torque torque_bit m.feeds m.signals past
          (let l = accepted.torque.3 in omega (arith, l)) torque_good before.fed_torque

  still_next : Still (m ∷ past)
  unfolding last_signals
  still_next = record {
    excess = excess_zero;
    pairs = pairs_zero;
    fed = λ p. good-cons (bit_of p) m past (pair_good p) (before.fed p);
    fed_torque = good-cons torque_bit m past torque_good before.fed_torque;
    untripped = tripped-cons m past ∙ or_from _ _ unfound_at.trip before.untripped;
  }

abbrev pub GiveNothing : CalibrationParts → List Tick → Type 0
GiveNothing cal h = Each (GivesNothing cal) h

module _ (s : Setting) (accepted : IsAccepted s.cal) where
  pub still_after : (h : List Tick) → GiveNothing s.cal h → Still (moments_of s h)
  unfolding moments_of Each
  still_after [] each = still_at_first
  still_after (x ∷ h) each = still_next s accepted x (moments_of s h) each.0 (still_after h each.1)

  pub unfound_after : (x : Tick) (h : List Tick) → GiveNothing s.cal (x ∷ h) →
      Unfound (moment s x.effects x.entry (moments_of s h))
  unfolding Each
  unfound_after x h each = unfound_at s accepted x (moments_of s h) each.0 (still_after h each.1)

  -- ---- and no wrong answers, where the fault spares the answers ----

  none_spoils : (fault : Option Fault) (t : ℕ) → IfSome fault (λ f. spoils_answers f.class ≡ false) → spoils_at fault t ≡ false
  unfolding spoils_at
  none_spoils None t spared = refl
  none_spoils (Some f) t spared = and_right _ _ spared

  heard_all : IfSome s.fault (λ f. spoils_answers f.class ≡ false) → (start : ℕ) (h : List Tick) → GiveNothing s.cal h →
      silent_from s.fault (SpanRows s start h) ≡ None
  unfolding silent_from rows_after moments_of Each
  heard_all spared start [] each = refl
  heard_all spared start (x ∷ h) each = ap₂
      (λ before (bit : Bool). option_or before (if bit then Some (length (SpanRows s start h)) else None))
      (heard_all spared start h each.1)
      (or_from _ _ (trips_row s start x h ∙ (unfound_after x h each).trip) (none_spoils s.fault _ spared))

  pub no_answers_found : IsListed s.fault → SparesAnswers s.fault → IfSome s.fault (λ f. spoils_answers f.class ≡ false) →
      (start : ℕ) (x : Tick) (h : List Tick) → Follows s.fault start (x ∷ h) → GiveNothing s.cal (x ∷ h) →
      (moment s x.effects x.entry (moments_of s h)).found.answers ≡ false
  no_answers_found listed spares spared start x h follows each = found_exactly s accepted listed spares start x h follows
      ∙ ap (λ o. confirmed_at s.cal.times o (length h)) (heard_all spared start (x ∷ h) each) ∙ (unfold confirmed_at in refl)
