-- What the words of level 2 stand for after a history: its signals, its counters, whether the operation is
-- limited, and whether a trip came. The words that tell of its program flow stand in `Replies`.
use Rattle.std.specs.Prelude.{◌≡◌, ℕ, Bool, List, if◌then◌else◌}
use Rattle.std.specs.List.{list_any}
use Rattle.eg_num.specs.Windows.{WeightParts}
use Rattle.eg_num.specs.Counting.{counted}
use Rattle.eg_sensor.specs.Readings.{bit}
use Rattle.eg_level2.specs.Words.{Words}
use Rattle.eg_model.specs.History.{Setting, Signals, Moment}
use Rattle.eg_model.specs.Signals.{tripped, is_limited, last_signals}
use Rattle.eg_model.specs.Detection.{pedal_bit, plate_bit, load_bit, speed_bit, torque_bit, fed_bits}

-- the five signals, as the words hold them
unfoldable pub signals_of : Words → Signals
signals_of words = record {
  pedal = words.pedal;
  permitted = words.permitted;
  actual = words.actual;
  excess = words.excess;
  pairs = words.pairs;
}

-- at one of these ticks a word was found to differ from its complement
unfoldable pub mirror_found : List Moment → Bool
mirror_found past = list_any (λ m. m.found.mirror) past

-- a counter stands for the bits that it was fed with; once a word was found to differ it is 0
unfoldable pub counter_after : WeightParts → (is_bad : Signals → Bool) → List Moment → ℕ
counter_after weights is_bad past = if mirror_found past then 0 else counted weights (fed_bits is_bad past)

-- 1 where the pedal is limited; once a word was found to differ it is 0
unfoldable pub limp_after : List Moment → ℕ
limp_after past = if mirror_found past then 0 else bit 1 (is_limited past)

-- 1 where a trip came
unfoldable pub trip_after : List Moment → ℕ
trip_after past = bit 1 (tripped past)

-- the words stand for these ticks
pub record KeepsWords (s : Setting) (words : Words) (past : List Moment) : Type 0 where
  pub signals : signals_of words ≡ last_signals past
  pub pedal : words.pedal_counter ≡ counter_after s.cal.rules.pair pedal_bit past
  pub plate : words.plate_counter ≡ counter_after s.cal.rules.pair plate_bit past
  pub load : words.load_counter ≡ counter_after s.cal.rules.pair load_bit past
  pub speed : words.speed_counter ≡ counter_after s.cal.rules.pair speed_bit past
  pub torque : words.torque_counter ≡ counter_after s.cal.rules.torque torque_bit past
  pub limp : words.limp ≡ limp_after past
  pub trip : words.trip ≡ trip_after past
