-- The bit that feeds each of level 2's five debouncers (C48): a bit of the word of the pairs, or the lowest
-- bit of the word of the excess. Other bits don't count.
use Rattle.std.specs.Prelude.{ℕ, Bool}
use Rattle.eg_sensor.specs.Readings.{has_bit}
use Rattle.eg_sensor.specs.declared.pairs.TheConstants.{PEDAL_PAIR, PLATE_PAIR, LOAD_PAIR, SPEED_PAIR}
use Rattle.eg_answer.specs.declared.formulas.TheConstants.{EXCESS_BIT}

abbrev pub pedal_feed : (pairs : ℕ) → Bool
pedal_feed pairs = has_bit PEDAL_PAIR pairs

abbrev pub plate_feed : (pairs : ℕ) → Bool
plate_feed pairs = has_bit PLATE_PAIR pairs

abbrev pub load_feed : (pairs : ℕ) → Bool
load_feed pairs = has_bit LOAD_PAIR pairs

abbrev pub speed_feed : (pairs : ℕ) → Bool
speed_feed pairs = has_bit SPEED_PAIR pairs

abbrev pub torque_feed : (excess : ℕ) → Bool
torque_feed excess = has_bit EXCESS_BIT excess
