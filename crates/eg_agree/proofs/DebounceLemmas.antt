-- Module 6: the counters, limited operation, the trip and the watches that are found.
use Rattle.std.proofs.Common.{◌≡◌, ℕ, ◌≤◌, Bool, true, false, not, ◌||◌, ◌&&◌, List, ◌∷◌, length, refl, sym, ap, ap₂, ◌∙◌}
use Rattle.std.specs.Prelude.{if◌then◌else◌, is_some}
use Rattle.std.proofs.lemmas.Bool.{true≢false}
use Rattle.eg_num.specs.Windows.{WeightParts}
use Rattle.eg_num.specs.Counting.{fed}
use Rattle.eg_sensor.specs.Readings.{bit}
use Rattle.eg_answer.specs.Feeds.{pedal_feed, plate_feed, load_feed, speed_feed, torque_feed}
use Rattle.eg_values.specs.Calibration.{IsAccepted}
use Rattle.eg_fault.specs.Effects.{Effects}
use Rattle.eg_level2.specs.declared.phase.Phase.{Phase}
use Rattle.eg_level2.specs.Words.{Words, is_set}
use Rattle.eg_level2.specs.Modules as level2
use Rattle.eg_level2.specs.Modules.{feeds_now, counted, is_found, debounced, limits, trips, debounce_step}
use Rattle.eg_model.specs.History.{Setting, Entry, Signals, SpanKind, drives, Moment}
use Rattle.eg_model.specs.Signals.{tripped, is_limited, last_signals, signals_at}
use Rattle.eg_model.specs.Detection.{pedal_bit, plate_bit, load_bit, speed_bit, torque_bit, feeds_at, fed_bits, finds}
use Rattle.eg_model.specs.Level1.{seen}
use Rattle.eg_model.specs.Moments.{readings_at, moment_in}
use Rattle.eg_agree.specs.Doings.{phase_at}
use Rattle.eg_agree.specs.Standing.{signals_of, mirror_found, counter_after, limp_after, trip_after}
use Rattle.eg_agree.proofs.BoolLaws.{if-part, stopped, stopped_by_flip, feeding-law, counted-law, found-law, limp-law, trip-law}
use Rattle.eg_model.proofs.TickLemmas.{Pedal, Plate, Load, Speed, bit_of, found_by, fields_in}
use Rattle.eg_agree.proofs.MomentLemmas.{phase-tells}
use Rattle.eg_agree.proofs.HistoryLemmas.{counter_after-cons}
use Rattle.eg_agree.proofs.SignalLemmas.{seen_by, fed_of, fed_after, MirrorTrips, Between}

-- a watch isn't found where nothing is fed
silent : (weights : WeightParts) (bit : Signals → Bool) (feeds : Bool) (now : Signals)
    (past : List Moment) → feeds ≡ false → finds weights bit feeds now past ≡ false
unfolding finds
silent weights bit feeds now past e = rw e refl

module _ (kind : SpanKind) (s : Setting) (accepted : IsAccepted s.cal) (x : Effects) (e : Entry)
    (past : List Moment) (trips_before : MirrorTrips past) where
  abbrev flip : Bool
  flip = is_some x.flip

  abbrev m : Moment
  m = moment_in kind s x e past

  abbrev phase : Phase
  phase = phase_at kind s.cal.times x (length past)

  feeds-is : m.feeds ≡ (drives kind && (x.ran 6 && not (tripped past) && not flip))
  unfolding feeds_at
  feeds-is = (fields_in kind s x e past).feeds

  quiet : mirror_found past ≡ true → m.feeds ≡ false
  quiet found = feeds-is ∙ stopped (drives kind) (x.ran 6) (tripped past) flip (trips_before found)

  quiet_at_flip : flip ≡ true → m.feeds ≡ false
  quiet_at_flip flipped = feeds-is ∙ stopped_by_flip (drives kind) (x.ran 6) (tripped past) flip flipped

  -- what a counter stands for, and the bit that it is fed with
  record Watched (weights : WeightParts) (told : Signals → Bool) (value : ℕ) (bad : Bool) : Type 0 where
    positive : 1 ≤ weights.limit
    stands : value ≡ (if flip then 0 else counter_after weights told past)
    tells : flip ≡ false → bad ≡ told m.signals

  module _ (w : Words) (b : Between s x (readings_at s.cal x e) past 6 w) where
    abbrev w' : Words
    w' = if x.ran 6 then debounce_step s.cal.rules phase w else w

    abbrev feeding : Bool
    feeding = feeds_now phase w

    feeding-is : feeding ≡ (drives kind && not (flip || tripped past))
    unfolding feeds_now fed_of fed_after
    feeding-is = feeding-law feeding (drives kind) flip (tripped past) w.trip
        (ap (λ b. b && not (is_set w.trip)) (phase-tells kind s.cal.times x (length past)).feeds) (ap (λ f. f.trip) b.others)

    -- a counter
    counter-is : {weights : WeightParts} {told : Signals → Bool} {value : ℕ} {bad : Bool} → Watched weights told value bad →
        (part : Words → ℕ) → part (debounce_step s.cal.rules phase w) ≡ counted feeding weights value bad → part w ≡ value →
        part w' ≡ counter_after weights told (m ∷ past)
    unfolding counted
    counter-is {weights} {told} {value} {bad} is part now old =
        if-part part (x.ran 6) (debounce_step s.cal.rules phase w) w ∙ ap₂ (λ a b. if x.ran 6 then a else b) now old
        ∙ counted-law weights feeding (drives kind) flip (x.ran 6) (tripped past) value
        (counter_after weights told past) bad (told m.signals) feeding-is is.stands is.tells
        ∙ sym (counter_after-cons weights told m past is.positive quiet
        ∙ ap₂ (λ now feeds. if now then 0 else if feeds then fed weights (counter_after weights told past)
        (told m.signals) else counter_after weights told past) (fields_in kind s x e past).mirror feeds-is)

    -- a watch
    found-is : {weights : WeightParts} {told : Signals → Bool} {value : ℕ} {bad : Bool} → Watched weights told value bad →
        (x.ran 6 && is_found feeding weights value bad) ≡ finds weights told m.feeds m.signals past
    unfolding finds counter_after is_found
    found-is {weights} {told} {value} {bad} is =
        found-law weights feeding (drives kind) flip (x.ran 6) (tripped past) (mirror_found past) value
        (fed_bits told past) bad (told m.signals) is.positive trips_before feeding-is is.stands is.tells
        ∙ ap (λ feeds. finds weights told feeds m.signals past) (sym feeds-is)

    -- the signals that it reads
    read : (part : Signals → ℕ) → flip ≡ false → part (signals_of w) ≡ part m.signals
    unfolding seen_by seen
    read part calm = ap part (b.signals ∙ shown flip calm ∙ sym (fields_in kind s x e past).signals)
      where
        now : Signals
        now = signals_at s.cal.rules x (readings_at s.cal x e) past

        shown : (flip : Bool) → flip ≡ false → seen_by flip (last_signals past) now 6 ≡ now
        shown true calm = absurd (true≢false calm)
        shown false calm = unfold seen_by seen in refl

    pedal-watched : Watched s.cal.rules.pair pedal_bit w.pedal_counter (level2.pedal_bit w)
    unfolding level2.pedal_bit pedal_bit fed_of fed_after signals_of
    pedal-watched = record { positive = accepted.pair.3; stands = ap (λ f. f.pedal) b.others; tells = λ calm. ap pedal_feed (read (λ g. g.pairs) calm) }

    plate-watched : Watched s.cal.rules.pair plate_bit w.plate_counter (level2.plate_bit w)
    unfolding level2.plate_bit plate_bit fed_of fed_after signals_of
    plate-watched = record { positive = accepted.pair.3; stands = ap (λ f. f.plate) b.others; tells = λ calm. ap plate_feed (read (λ g. g.pairs) calm) }

    load-watched : Watched s.cal.rules.pair load_bit w.load_counter (level2.load_bit w)
    unfolding level2.load_bit load_bit fed_of fed_after signals_of
    load-watched = record { positive = accepted.pair.3; stands = ap (λ f. f.load) b.others; tells = λ calm. ap load_feed (read (λ g. g.pairs) calm) }

    speed-watched : Watched s.cal.rules.pair speed_bit w.speed_counter (level2.speed_bit w)
    unfolding level2.speed_bit speed_bit fed_of fed_after signals_of
    speed-watched = record { positive = accepted.pair.3; stands = ap (λ f. f.speed) b.others; tells = λ calm. ap speed_feed (read (λ g. g.pairs) calm) }

    torque-watched : Watched s.cal.rules.torque torque_bit w.torque_counter (level2.torque_bit w)
    unfolding level2.torque_bit torque_bit fed_of fed_after signals_of
    torque-watched = record { positive = accepted.torque.3; stands = ap (λ f. f.torque) b.others; tells = λ calm. ap torque_feed (read (λ g. g.excess) calm) }

    -- the watches that are found
    pub record AreFound : Type 0 where
      pub pedal : (x.ran 6 && (debounced s.cal.rules phase w).pedal) ≡ m.found.pedal
      pub plate : (x.ran 6 && (debounced s.cal.rules phase w).plate) ≡ m.found.plate
      pub load : (x.ran 6 && (debounced s.cal.rules phase w).load) ≡ m.found.load
      pub speed : (x.ran 6 && (debounced s.cal.rules phase w).speed) ≡ m.found.speed
      pub torque : (x.ran 6 && (debounced s.cal.rules phase w).torque) ≡ m.found.torque

    pub debounce-found : AreFound
    unfolding debounced found_by bit_of
    debounce-found = record {
      pedal = found-is pedal-watched ∙ sym ((fields_in kind s x e past).pair Pedal);
      plate = found-is plate-watched ∙ sym ((fields_in kind s x e past).pair Plate);
      load = found-is load-watched ∙ sym ((fields_in kind s x e past).pair Load);
      speed = found-is speed-watched ∙ sym ((fields_in kind s x e past).pair Speed);
      torque = found-is torque-watched ∙ sym (fields_in kind s x e past).torque;
    }

    -- the other two words
    limp-is : w'.limp ≡ limp_after (m ∷ past)
    unfolding debounce_step limits limp_after mirror_found is_limited fed_of fed_after
    limp-is = if-part (λ (u : Words). u.limp) (x.ran 6) (debounce_step s.cal.rules phase w) w
        ∙ limp-law flip (x.ran 6) (mirror_found past) (is_limited past)
        (debounced s.cal.rules phase w).pedal m.found.pedal w.limp (ap (λ f. f.limp) b.others) debounce-found.pedal
        (λ flipped. unfound (quiet_at_flip flipped)) (λ found. unfound (quiet found))
        ∙ ap (λ now. if now || mirror_found past then 0 else bit 1 (m.found.pedal || is_limited past))
        (sym (fields_in kind s x e past).mirror)
      where
        unfound : m.feeds ≡ false → m.found.pedal ≡ false
        unfound unfed = unfold found_by bit_of in
            (fields_in kind s x e past).pair Pedal ∙ silent s.cal.rules.pair pedal_bit m.feeds m.signals past unfed

    trip-is : w'.trip ≡ trip_after (m ∷ past)
    unfolding debounce_step trips trip_after tripped fed_of fed_after
    trip-is =
        let found = debounce-found in
        if-part (λ (u : Words). u.trip) (x.ran 6) (debounce_step s.cal.rules phase w) w
        ∙ trip-law flip (x.ran 6) (tripped past) (debounced s.cal.rules phase w).plate
        (debounced s.cal.rules phase w).load (debounced s.cal.rules phase w).speed (debounced s.cal.rules phase w).torque
        m.found.plate m.found.load m.found.speed m.found.torque w.trip (ap (λ f. f.trip) b.others) found.plate found.load found.speed found.torque
        ∙ ap (λ trip. bit 1 (trip || tripped past))
        (ap (λ now. now || m.found.plate || m.found.load || m.found.speed || m.found.torque) (sym (fields_in kind s x e past).mirror)
        ∙ sym (fields_in kind s x e past).trip)

    pub debounce-fed : fed_of w' ≡ fed_after s.cal.rules false (m ∷ past)
    unfolding debounce_step fed_of fed_after limp_after trip_after
    debounce-fed = λ i. record {
      pedal = counter-is pedal-watched (λ u. u.pedal_counter) refl refl i;
      plate = counter-is plate-watched (λ u. u.plate_counter) refl refl i;
      load = counter-is load-watched (λ u. u.load_counter) refl refl i;
      speed = counter-is speed-watched (λ u. u.speed_counter) refl refl i;
      torque = counter-is torque-watched (λ u. u.torque_counter) refl refl i;
      limp = limp-is i;
      trip = trip-is i;
    }
