-- Closed and open loop agree: what is told of a span depends on four fields of its moments alone, and those of
-- a tick at which level 2 runs freely follow from its readings and from the same fields before it.
use Rattle.std.proofs.Common.{◌≡◌, ◌∙◌, refl, sym, ap, subst, ℕ, ◌≤◌, ◌∷◌, [], ◌&&◌, ◌||◌, not, Bool, true, false, List, All, map, filter, bit_xor, arith, None}
use Rattle.std.specs.Prelude.{if◌then◌else◌}
use Rattle.std.proofs.lemmas.List.Elements.{All-head, All-tail}
use Rattle.eg_num.specs.Windows.{WeightParts, is_first}
use Rattle.eg_num.specs.Counting.{counted}
use Rattle.eg_sensor.specs.Readings.{used_pedal}
use Rattle.eg_sensor.specs.Brake.{is_pressed, gated, sound_contacts}
use Rattle.eg_sensor.specs.declared.readings.Readings.{Readings}
use Rattle.eg_torque.specs.Ramp.{ramped}
use Rattle.eg_answer.specs.Formulas.{permitted_torque, estimated_torque, excess_number, disagreeing_pairs}
use Rattle.eg_answer.specs.declared.rules.Rules.{Rules}
use Rattle.eg_values.specs.Calibration.{CalibrationParts}
use Rattle.eg_fault.specs.Effects.{Effects, no_effects, readings_under, contacts_under}
use Rattle.eg_model.specs.History.{Setting, Entry, Tick, Drive, drives, Moment, Signals}
use Rattle.eg_model.specs.Signals.{tripped, is_limited, last_signals, signal, signals_at}
use Rattle.eg_model.specs.Detection.{pedal_bit, plate_bit, load_bit, speed_bit, torque_bit, feeds_at, fed_bits, finds}
use Rattle.eg_model.specs.Paths.{reads_back}
use Rattle.eg_model.specs.Moments.{is_braking, sensed_at, readings_at, some_trips, moment_in, moments_in}
use Rattle.eg_model.specs.Rows.{signal_list, row_of, rows_of}
use Rattle.eg_agree.specs.Standing.{mirror_found, counter_after}
use Rattle.eg_agree.specs.Ticking.{found_in_level2}
use Rattle.eg_turns.specs.Board.{by_tracks}
use Rattle.eg_input.specs.declared.recorded.Recorded.{Recorded}
use Rattle.eg_replay.specs.Replay.{effects_of, entry_of, alone, replayed, given_readings, counters_after, told_at, told_of}
use Rattle.eg_replay.specs.Agreement.{recorded_at, RunsFreely, SpansAgree, shown_by, RowsShowTheSame}
use Rattle.eg_replay.proofs.TellLemmas.{and-false}
use Rattle.eg_replay.proofs.RunLemmas.{reads-are}

-- ---- the fields that count ----

-- the signals of a tick at which level 2 runs freely, by whether a trip came before it, whether the pedal is
-- limited, and the permitted torque before it
abbrev signals_by : Rules → Readings → (gone limited : Bool) → (from : ℕ) → Signals
signals_by rules reads gone limited from =
    let pedal = if gone then 0 else bit_xor (used_pedal reads.pedal limited) 0 in
    let allowed = if gone then 0 else bit_xor (ramped rules.fall from (permitted_torque rules reads pedal)) 0 in
    let actual = if gone then 0 else bit_xor (estimated_torque rules reads) 0 in
    record {
      pedal = pedal;
      permitted = allowed;
      actual = actual;
      excess = if gone then 0 else bit_xor (excess_number rules allowed actual) 0;
      pairs = if gone then 0 else bit_xor (disagreeing_pairs rules reads) 0;
    }

-- all other fields are those of a moment that doesn't count
module _ (blank : Moment) where
  bare : Moment → Moment
  unfolding found_in_level2
  bare m = record blank { signals = m.signals; feeds = m.feeds; found = found_in_level2 m; trip = m.trip }

  -- such a tick, `from` being the permitted torque and `fed` the bits that were fed before it
  made : CalibrationParts → Readings → (gone limited : Bool) → (from : ℕ) →
      (fed : (Signals → Bool) → List Bool) → Moment
  made cal reads gone limited from fed =
      let signals = signals_by cal.rules reads gone limited from in
      let feeds = not gone && true in
      let finds = λ (w : WeightParts) (bit : Signals → Bool). feeds && is_first w (bit signals ∷ fed bit) in
      let plate = finds cal.rules.pair plate_bit in
      let load = finds cal.rules.pair load_bit in
      let speed = finds cal.rules.pair speed_bit in
      let torque = finds cal.rules.torque torque_bit in
      record blank {
        signals = signals;
        feeds = feeds;
        found = record {
          mirror = false;
          pedal = finds cal.rules.pair pedal_bit;
          plate = plate;
          load = load;
          speed = speed;
          torque = torque;
          answers = false;
          start = false;
        };
        trip = some_trips false plate load speed torque;
      }

  -- ---- what is told depends on these fields alone ----

  tripped-bare : (past : List Moment) → tripped (map bare past) ≡ tripped past
  unfolding tripped bare
  tripped-bare [] = refl
  tripped-bare (m ∷ past) = ap (λ b. m.trip || b) (tripped-bare past)

  limited-bare : (past : List Moment) → is_limited (map bare past) ≡ is_limited past
  unfolding is_limited bare found_in_level2
  limited-bare [] = refl
  limited-bare (m ∷ past) = ap (λ b. m.found.pedal || b) (limited-bare past)

  signals-bare : (past : List Moment) → last_signals (map bare past) ≡ last_signals past
  unfolding last_signals bare
  signals-bare [] = refl
  signals-bare (m ∷ past) = refl

  mirror-bare : (past : List Moment) → mirror_found (map bare past) ≡ mirror_found past
  unfolding mirror_found bare found_in_level2
  mirror-bare [] = refl
  mirror-bare (m ∷ past) = ap (λ b. m.found.mirror || b) (mirror-bare past)

  fed-bare : (bit : Signals → Bool) (past : List Moment) → fed_bits bit (map bare past) ≡ fed_bits bit past
  unfolding fed_bits bare
  fed-bare bit [] = refl
  fed-bare bit (m ∷ past) = go m.feeds (filter (λ (n : Moment). n.feeds) (map bare past))
      (filter (λ (n : Moment). n.feeds) past) (fed-bare bit past)
    where
      go : (feeds : Bool) (some others : List Moment) →
          map (λ n. bit n.signals) some ≡ map (λ n. bit n.signals) others →
          map (λ n. bit n.signals) (if feeds then bare m ∷ some else some)
          ≡ map (λ n. bit n.signals) (if feeds then m ∷ others else others)
      go true some others same = ap (λ rest. bit m.signals ∷ rest) same
      go false some others same = same

  counter-bare : (w : WeightParts) (bit : Signals → Bool) (past : List Moment) →
      counter_after w bit (map bare past) ≡ counter_after w bit past
  unfolding counter_after
  counter-bare w bit past = λ k. if mirror-bare past k then 0 else counted w (fed-bare bit past k)

  counters-bare : (cal : CalibrationParts) (past : List Moment) →
      counters_after cal (map bare past) ≡ counters_after cal past
  unfolding counters_after
  counters-bare cal past = λ k. record {
    pedal = counter-bare cal.rules.pair pedal_bit past k;
    plate = counter-bare cal.rules.pair plate_bit past k;
    load = counter-bare cal.rules.pair load_bit past k;
    speed = counter-bare cal.rules.pair speed_bit past k;
    torque = counter-bare cal.rules.torque torque_bit past k;
  }

  told-bare : (cal : CalibrationParts) (past : List Moment) → told_of cal (map bare past) ≡ told_of cal past
  unfolding told_of told_at bare found_in_level2
  told-bare cal [] = refl
  told-bare cal (m ∷ past) = λ k. record {
    signals = signal_list m.signals;
    counters = counters-bare cal (m ∷ past) k;
    found = found_in_level2 m;
  } ∷ told-bare cal past k

  -- ---- a tick ----

  -- with what is asked of it, literally
  freely : (x : Effects) → RunsFreely x → x ≡ record x { ran = λ i. true; disturbance = λ i. 0; flip = None }
  freely x free = λ k. record x {
    ran = λ i. free.runs.ran i k;
    disturbance = λ i. free.undisturbed i k;
    flip = free.runs.unflipped k;
  }

  tick-made : (s : Setting) (x : Effects) (e : Entry) (past : List Moment) → RunsFreely x →
      bare (moment_in Drive s x e past)
      ≡ made s.cal (readings_at s.cal x e) (tripped past) (is_limited past) (last_signals past).permitted
      (λ bit. fed_bits bit past)
  unfolding bare made found_in_level2 moment_in drives reads_back signals_at signal feeds_at finds readings_at is_braking contacts_under sensed_at readings_under
  tick-made s x e past free = ap (λ y. bare (moment_in Drive s y e past)) (freely x free)

-- ---- what was recorded ----

-- a check word, and two readings of each track
small : (cal : CalibrationParts) (x : Effects) (e : Entry) → (readings_at cal x e).raise_check ≤ 65535
unfolding readings_at sensed_at readings_under
small cal x e = go (is_braking cal x e.drive)
  where
    go : (braking : Bool) → (if braking then gated (sensed_at x e) else sensed_at x e).raise_check ≤ 65535
    go true = omega arith
    go false = omega arith

tracks : (cal : CalibrationParts) (x : Effects) (e : Entry) →
    by_tracks (readings_at cal x e) ≡ readings_at cal x e
unfolding readings_at by_tracks sensed_at readings_under
tracks cal x e = go (is_braking cal x e.drive)
  where
    go : (braking : Bool) →
        (let reads = if braking then gated (sensed_at x e) else sensed_at x e in by_tracks reads ≡ reads)
    go true = refl
    go false = refl

-- the contacts gate nothing
given : (cal : CalibrationParts) (reads : Readings) →
    given_readings cal (record { readings = reads; contacts = sound_contacts false }) ≡ reads
given cal reads =
    ap (λ b. if b then gated reads else reads) (and-false cal.brake (is_pressed (sound_contacts false)) refl)

-- a replay is given what level 2 was given
read-again : (cal : CalibrationParts) (x : Effects) (e : Entry) →
    (let r : Recorded = record { readings = readings_at cal x e; contacts = sound_contacts false } in
    readings_at cal (effects_of r) (entry_of r) ≡ readings_at cal x e)
read-again cal x e =
    let reads = readings_at cal x e in
    reads-are cal (record { readings = reads; contacts = sound_contacts false })
    (subst (λ (g : Readings). g.raise_check ≤ 65535) (sym (given cal reads)) (small cal x e))
    ∙ ap by_tracks (given cal reads) ∙ tracks cal x e

-- and runs freely
recorded-freely : (r : Recorded) → RunsFreely (effects_of r)
unfolding effects_of no_effects
recorded-freely r = record { runs = record { ran = λ i. refl; unflipped = refl }; undisturbed = λ i. refl }

-- ---- the law of a span ----

abbrev pub Free : Tick → Type 0
Free x = RunsFreely x.effects

module _ (blank : Moment) (s : Setting) where
  -- the moments of a history, and those of a replay of it
  abbrev was : List Tick → List Moment
  was h = moments_in Drive s h

  abbrev again : List Tick → List Moment
  again h = replayed s.cal (map recorded_at (was h))

  tick-same : (x : Tick) (h : List Tick) → Free x → map (bare blank) (again h) ≡ map (bare blank) (was h) →
      (let m = moment_in Drive s x.effects x.entry (was h) in
      let r = recorded_at m in
      bare blank (moment_in Drive (alone s.cal) (effects_of r) (entry_of r) (again h)) ≡ bare blank m)
  unfolding recorded_at moment_in
  tick-same x h free before =
      let r = recorded_at (moment_in Drive s x.effects x.entry (was h)) in
      let gone : tripped (again h) ≡ tripped (was h) =
      sym (tripped-bare blank (again h)) ∙ ap tripped before ∙ tripped-bare blank (was h) in
      let limited : is_limited (again h) ≡ is_limited (was h) =
      sym (limited-bare blank (again h)) ∙ ap is_limited before ∙ limited-bare blank (was h) in
      let from : (last_signals (again h)).permitted ≡ (last_signals (was h)).permitted =
      ap (λ (g : Signals). g.permitted)
      (sym (signals-bare blank (again h)) ∙ ap last_signals before ∙ signals-bare blank (was h)) in
      let fed : (bit : Signals → Bool) → fed_bits bit (again h) ≡ fed_bits bit (was h) =
      λ bit. sym (fed-bare blank bit (again h)) ∙ ap (fed_bits bit) before ∙ fed-bare blank bit (was h) in
      tick-made blank (alone s.cal) (effects_of r) (entry_of r) (again h) (recorded-freely r)
      ∙ (λ k. made blank s.cal (read-again s.cal x.effects x.entry k) (gone k) (limited k) (from k) (λ bit. fed bit k))
      ∙ sym (tick-made blank s x.effects x.entry (was h) free)

  all-same : (h : List Tick) → All Free h → map (bare blank) (again h) ≡ map (bare blank) (was h)
  unfolding moments_in
  all-same [] all = refl
  all-same (x ∷ h) all =
      let before = all-same h (All-tail Free x h all) in
      λ k. tick-same x h (All-head Free x h all) before k ∷ before k

pub spans_agree : SpansAgree
unfolding moments_in told_of
spans_agree s [] all = refl
spans_agree s (x ∷ h) all =
    let blank = moment_in Drive s x.effects x.entry (moments_in Drive s h) in
    sym (told-bare blank s.cal (again blank s (x ∷ h))) ∙ ap (told_of s.cal) (all-same blank s (x ∷ h) all)
    ∙ told-bare blank s.cal (was blank s (x ∷ h))

-- what is told of ticks is what their rows show
pub rows_show_the_same : RowsShowTheSame
unfolding told_of told_at shown_by rows_of row_of found_in_level2
rows_show_the_same cal [] = refl
rows_show_the_same cal (m ∷ past) = ap (λ rows. (signal_list m.signals, found_in_level2 m) ∷ rows) (rows_show_the_same cal past)
