-- A tick of the eight modules over what was recorded is the model's tick.
use Rattle.std.proofs.Common.{◌≡◌, ◌∙◌, refl, sym, ap, subst, ℕ, suc, ◌+◌, ◌-◌, ◌≤◌, ◌∷◌, [], ◌&&◌, Bool, true, false, List, map, length, slice_index, arith}
use Rattle.std.specs.Prelude.{if◌then◌else◌}
use Rattle.eg_sensor.specs.declared.readings.Readings.{Readings}
use Rattle.eg_sensor.specs.Brake.{is_pressed, gated}
use Rattle.eg_guard.specs.Memory.{AreWords, SameOutside}
use Rattle.eg_num.specs.declared.watches.Watches.{Watches}
use Rattle.eg_level2.specs.Words.{Words, words_of, is_level2_own, start}
use Rattle.eg_level2.specs.Inputs.{Level2Parts, inputs_of, readings_of, asked_of}
use Rattle.eg_level2.specs.Modules.{module_step, found_by, debounced}
use Rattle.eg_level2.specs.Phases.{feeds}
use Rattle.eg_level2.specs.declared.phase.Phase.TheVariants.{Quiet, Send}
use Rattle.eg_level2.specs.Ticks.{Doing, inputs_for, after_modules, after_tick, finds_at}
use Rattle.eg_values.specs.Calibration.{CalibrationParts, IsAccepted}
use Rattle.eg_fault.specs.Effects.{no_effects, readings_under, contacts_under, sends_at}
use Rattle.eg_fault.specs.Classes.{ChecksFlips}
use Rattle.eg_model.specs.History.{Drive, drives}
use Rattle.eg_model.specs.Moments.{is_braking, sensed_at, readings_at, moments_in}
use Rattle.eg_agree.specs.Doings.{doing_at, phase_at}
use Rattle.eg_agree.specs.Standing.{KeepsWords, signals_of}
use Rattle.eg_model.specs.Signals.{last_signals}
use Rattle.eg_model.specs.Rows.{signal_list}
use Rattle.eg_agree.specs.Ticking.{IsTick, found_in_level2}
use Rattle.eg_agree.specs.Replies.{moment_after}
use Rattle.eg_agree.proofs.HistoryLemmas.{start_law}
use Rattle.eg_agree.proofs.TickLemmas.{tick_law}
use Rattle.eg_turns.specs.Board.{by_tracks}
use Rattle.eg_turns.proofs.FrameLemmas.{level2_leaves, set-stays}
use Rattle.eg_turns.specs.Midway.{Work, signals_in}
use Rattle.eg_model.specs.Level1.{last_world}
use Rattle.eg_input.specs.declared.recorded.Recorded.{Recorded}
use Rattle.eg_replay.specs.Replay.{tracks_of, effects_of, entry_of, tick_of, alone, replayed, given_readings, counters_after, told_at, told_after}
use Rattle.eg_replay.specs.declared.tick_signals.TickSignals.{TickSignals}
use Rattle.eg_replay.specs.declared.tick_signals.Counters.{Counters}
use Rattle.eg_replay.specs.Inner.Running.{meeting, HasRun, counters_kept}
use Rattle.eg_replay.proofs.TellLemmas.{AreAlike, plain-module, tick-told, finds-same, keeps-told}

-- ---- what is read ----

-- what the sensors read is what was recorded, the check word as far as it is one
sensed : Recorded → Readings
sensed r = record (by_tracks r.readings) { raise_check = 65535 - (65535 - r.readings.raise_check) }

-- the brake is taken as pressed by the contacts that were recorded
read-by : (cal : CalibrationParts) (r : Recorded) → readings_at cal (effects_of r) (entry_of r) ≡ (if cal.brake && is_pressed r.contacts then gated (sensed r) else sensed r)
unfolding readings_at is_braking contacts_under sensed_at readings_under effects_of entry_of tracks_of no_effects by_tracks sensed
read-by cal r = refl

given-by : (pressed : Bool) (r : Recorded) → (if pressed then gated r.readings else r.readings).raise_check ≤ 65535
    → (if pressed then gated (sensed r) else sensed r) ≡ by_tracks (if pressed then gated r.readings else r.readings)
unfolding by_tracks sensed
given-by true r small = refl
given-by false r small = λ k. record (by_tracks r.readings) {
  raise_check = (let whole : 65535 - (65535 - r.readings.raise_check) ≡ r.readings.raise_check = omega arith in whole) k;
}

pub reads-are : (cal : CalibrationParts) (r : Recorded) → (given_readings cal r).raise_check ≤ 65535 → readings_at cal (effects_of r) (entry_of r) ≡ by_tracks (given_readings cal r)
reads-are cal r small = read-by cal r ∙ given-by (cal.brake && is_pressed r.contacts) r small

-- ---- the tick ----

checks : (r : Recorded) → ChecksFlips (effects_of r)
unfolding effects_of no_effects
checks r flipped = absurd (let clash : false ≡ true = flipped in cc)

fed-always : (sending : Bool) → feeds Quiet ≡ feeds (if sending then Send else Quiet)
unfolding feeds
fed-always true = refl
fed-always false = refl

module _ (cal : CalibrationParts) (accepted : IsAccepted cal) (r : Recorded) (seen : List Recorded) (w : Words)
    (keeps : KeepsWords (alone cal) w (replayed cal seen)) (parts : Level2Parts) (rules : parts.rules ≡ cal.rules) (asked tick : ℕ) where
  abbrev come_in : Readings
  come_in = readings_at cal (effects_of r) (entry_of r)

  abbrev here : Doing
  here = meeting parts come_in asked tick

  abbrev there : Doing
  there = doing_at Drive (alone cal) (effects_of r) come_in (length (map tick_of seen))

  alike : AreAlike here there
  unfolding meeting doing_at effects_of no_effects phase_at drives
  alike = record {
    rules = rules;
    readings = refl;
    disturbance = λ i. refl;
    feeding = fed-always (sends_at (effects_of r) cal.times (length (map tick_of seen)));
    ran = λ i. refl;
    ran_too = λ i. refl;
    whole = refl;
    whole_too = refl;
  }

  law : IsTick (alone cal) (effects_of r) there w (moment_after Drive (alone cal) (tick_of r) (map tick_of seen)) (replayed cal seen)
  law = tick_law Drive (alone cal) accepted (map tick_of seen) (effects_of r) (entry_of r) (checks r) w keeps

  pub words-follow : KeepsWords (alone cal) (after_tick here w) (replayed cal (r ∷ seen))
  unfolding moments_in
  words-follow = keeps-told (alone cal) (after_tick here w) (after_tick there w) (replayed cal (r ∷ seen)) (tick-told here there alike w) law.words

  pub finds-follow : finds_at here w ≡ found_in_level2 (moment_after Drive (alone cal) (tick_of r) (map tick_of seen))
  finds-follow = finds-same here there alike w ∙ law.found

-- ---- one module ----

-- what goes into a module is what the tick says
inputs-same : (parts : Level2Parts) (reads : Readings) (asked tick number : ℕ) (memory : List ℕ) → readings_of memory ≡ reads → asked_of memory ≡ asked
    → inputs_of parts memory tick Quiet 0 ≡ inputs_for (meeting parts reads asked tick) number
unfolding inputs_of inputs_for meeting
inputs-same parts reads asked tick number memory reading asks = λ i. record {
  rules = parts.rules;
  questions = parts.questions;
  readings = reading i;
  asked = asks i;
  tick = tick;
  phase = Quiet;
  disturbance = 0;
}

module _ (parts : Level2Parts) (reads : Readings) (asked tick number : ℕ) (before : Words) (old new : List ℕ)
    (run : HasRun (meeting parts reads asked tick) before number old) where
  readings-are : readings_of old ≡ reads
  unfolding meeting
  readings-are = run.readings

  asked-is : asked_of old ≡ asked
  unfolding meeting
  asked-is = run.asked

  -- what the board wrote is the work of a tick in which level 1 does nothing
  board-wrote : Work
  board-wrote = record {
    image = old;
    doing = meeting parts reads asked tick;
    words = before;
    level1 = false;
    slices = [];
    world = last_world [];
  }

  -- the module makes its words, and what the board wrote stays
  pub module-runs : AreWords old → AreWords new → words_of new ≡ module_step (inputs_of parts old tick Quiet 0) number (words_of old)
      → SameOutside is_level2_own old new → HasRun (meeting parts reads asked tick) before (number + 1) new
  unfolding meeting after_modules board-wrote
  module-runs were are made same =
      let set = set-stays is_level2_own level2_leaves old new same board-wrote are
      (record { are_words = were; code = λ k within. refl; readings = run.readings; asked = run.asked }) in
      let into = inputs-same parts reads asked tick number old readings-are asked-is in
      record {
        readings = set.readings;
        asked = set.asked;
        words = made ∙ (λ i. module_step (into i) number (run.words i))
            ∙ sym (plain-module (meeting parts reads asked tick) (λ i. refl) refl number (after_modules (meeting parts reads asked tick) number before))
            ∙ ap (λ n. after_modules (meeting parts reads asked tick) n before) (let one_more : suc number ≡ number + 1 = omega arith in one_more);
      }

  pub module-finds : (found : Watches) → found ≡ found_by (inputs_of parts old tick Quiet 0) number (words_of old)
      → found ≡ found_by (inputs_for (meeting parts reads asked tick) number) number (after_modules (meeting parts reads asked tick) number before)
  module-finds found made = made
      ∙ (λ i. found_by (inputs-same parts reads asked tick number old readings-are asked-is i) number (run.words i))

-- before the first module
pub begins : (parts : Level2Parts) (reads : Readings) (asked tick : ℕ) (memory : List ℕ) → readings_of memory ≡ reads → asked_of memory ≡ asked
    → HasRun (meeting parts reads asked tick) (words_of memory) 0 memory
unfolding meeting after_modules
begins parts reads asked tick memory reading asks = record { readings = reading; asked = asks; words = refl }

-- behind the last
pub ends : (d : Doing) (before : Words) (memory : List ℕ) → HasRun d before 8 memory → words_of memory ≡ after_tick d before
unfolding after_tick
ends d before memory run = run.words

-- debounce finds what is found at the tick
pub finds-all : (parts : Level2Parts) (reads : Readings) (asked tick : ℕ) (w : Words) →
    found_by (inputs_for (meeting parts reads asked tick) 6) 6 (after_modules (meeting parts reads asked tick) 6 w) ≡ finds_at (meeting parts reads asked tick) w
unfolding meeting finds_at found_by inputs_for debounced
finds-all parts reads asked tick w = refl

-- ---- a replay ----

-- the words with which level 2 starts stand for no recordings
pub starts : (cal : CalibrationParts) {w : Words} → w ≡ start → KeepsWords (alone cal) w (replayed cal [])
unfolding moments_in
starts cal is = subst (λ w. KeepsWords (alone cal) w []) (sym is) (start_law (alone cal))

-- What is told of a tick: the readings that the board wrote are those of the model, the modules ran, and found
-- this.
pub record HasFed (cal : CalibrationParts) (parts : Level2Parts) (r : Recorded) (given : Readings) (tick : ℕ) (old shown new : List ℕ) (found : Watches) : Type 0 where
  pub accepted : IsAccepted cal
  pub rules : parts.rules ≡ cal.rules
  pub is : given ≡ given_readings cal r
  pub are_words : AreWords shown
  pub readings : readings_of shown ≡ by_tracks given
  pub asked : asked_of shown ≡ 0
  pub words : words_of shown ≡ words_of old
  pub ran : (reads : Readings) (asked : ℕ) → readings_of shown ≡ reads → asked_of shown ≡ asked → words_of new ≡ after_tick (meeting parts reads asked tick) (words_of shown)
  pub finds : (reads : Readings) (asked : ℕ) → readings_of shown ≡ reads → asked_of shown ≡ asked → found ≡ finds_at (meeting parts reads asked tick) (words_of shown)

module _ (cal : CalibrationParts) (parts : Level2Parts) (r : Recorded) (given : Readings) (tick : ℕ) (old shown new : List ℕ) (found : Watches)
    (fed : HasFed cal parts r given tick old shown new found) (seen : List Recorded) (stands : KeepsWords (alone cal) (words_of old) (replayed cal seen)) where
  -- the check word stands in the memory
  small : given.raise_check ≤ 65535
  unfolding readings_of by_tracks
  small = let word = fed.are_words.small 2057 in
      let here : slice_index shown 2057 ≡ given.raise_check = ap (λ (g : Readings). g.raise_check) fed.readings in
      omega arith

  model-reads : readings_of shown ≡ readings_at cal (effects_of r) (entry_of r)
  model-reads = fed.readings ∙ ap by_tracks fed.is ∙ sym (reads-are cal r (subst (λ (g : Readings). g.raise_check ≤ 65535) fed.is small))

  pub fed-stands : KeepsWords (alone cal) (words_of new) (replayed cal (r ∷ seen))
  fed-stands = subst (λ w. KeepsWords (alone cal) w (replayed cal (r ∷ seen)))
      (sym (fed.ran _ 0 model-reads fed.asked ∙ ap (after_tick (meeting parts (readings_at cal (effects_of r) (entry_of r)) 0 tick)) fed.words))
      (words-follow cal fed.accepted r seen (words_of old) stands parts fed.rules 0 tick)

  pub fed-found : found ≡ found_in_level2 (moment_after Drive (alone cal) (tick_of r) (map tick_of seen))
  fed-found = fed.finds _ 0 model-reads fed.asked
      ∙ ap (finds_at (meeting parts (readings_at cal (effects_of r) (entry_of r)) 0 tick)) fed.words
      ∙ finds-follow cal fed.accepted r seen (words_of old) stands parts fed.rules 0 tick

  pub fed-told : (signals : List ℕ) (counters : Counters) → signals ≡ signals_in (words_of new) → counters ≡ counters_kept (words_of new)
      → (let told : TickSignals = record { signals = signals; counters = counters; found = found } in told ≡ told_after cal r seen)
  unfolding told_at counters_kept counters_after moments_in last_signals signals_in signals_of signal_list
  fed-told signals counters are kept = λ i. record {
    signals = (are ∙ ap signal_list fed-stands.signals) i;
    counters = (kept ∙ (λ k. record {
      pedal = fed-stands.pedal k;
      plate = fed-stands.plate k;
      load = fed-stands.load k;
      speed = fed-stands.speed k;
      torque = fed-stands.torque k;
    })) i;
    found = fed-found i;
  }
