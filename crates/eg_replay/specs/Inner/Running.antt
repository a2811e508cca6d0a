-- Beside `Running`: what only proofs and private functions need.
use Rattle.std.specs.Prelude.{◌≡◌, ℕ, true, false, List}
use Rattle.eg_sensor.specs.declared.readings.Readings.{Readings}
use Rattle.eg_level2.specs.declared.phase.Phase.TheVariants.{Quiet}
use Rattle.eg_level2.specs.Words.{Words, words_of}
use Rattle.eg_level2.specs.Inputs.{Level2Parts, readings_of, asked_of}
use Rattle.eg_level2.specs.Ticks.{Doing, after_modules}
use Rattle.eg_replay.specs.declared.tick_signals.Counters.{Counters}

-- what level 2 meets at a tick: all modules run, nothing disturbs them, and no answer is to be sent
unfoldable pub meeting : Level2Parts → Readings → (asked tick : ℕ) → Doing
meeting parts reads asked tick = record {
  rules = parts.rules;
  questions = parts.questions;
  readings = reads;
  asked = asked;
  tick = tick;
  phase = Quiet;
  ran = λ i. true;
  disturbance = λ i. 0;
  differs = false;
}

-- Level 2's words are those that this many modules make of the words before; each has its complement; and
-- readings and question stand as the board wrote them.
pub record HasRun (d : Doing) (before : Words) (modules : ℕ) (memory : List ℕ) : Type 0 where
  pub readings : readings_of memory ≡ d.readings
  pub asked : asked_of memory ≡ d.asked
  pub words : words_of memory ≡ after_modules d modules before

-- what the debouncers weigh, read from the words
unfoldable pub counters_kept : Words → Counters
counters_kept words = record {
  pedal = words.pedal_counter;
  plate = words.plate_counter;
  load = words.load_counter;
  speed = words.speed_counter;
  torque = words.torque_counter;
}
