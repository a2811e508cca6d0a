-- What tracks read (C12), and what level 2 makes of it (C13 to C15).
use Rattle.std.specs.Prelude.{ℕ, ◌+◌, ◌-◌, ◌/◌, ◌%◌, ◌==◌, Bool, List, [], ◌∷◌, min, if◌then◌else◌, nat_lt, slice_index}
use Rattle.eg_sensor.specs.declared.pairs.TheConstants.{PEDAL_PAIR, PLATE_PAIR, LOAD_PAIR, SPEED_PAIR}
use Rattle.eg_sensor.specs.declared.readings.Readings.{Readings}

-- C12
abbrev pub falling_value : ℕ → ℕ
falling_value reading = 1000 - reading

-- the two values that a pair of tracks senses
pub record PairValues : Type 0 where
  pub first : ℕ
  pub second : ℕ

-- of two tracks that rise
abbrev pub rising_pair : List ℕ → PairValues
rising_pair tracks = record { first = slice_index tracks 0; second = slice_index tracks 1 }

-- of two tracks of which the second falls
abbrev pub falling_pair : List ℕ → PairValues
falling_pair tracks = record { first = slice_index tracks 0; second = falling_value (slice_index tracks 1) }

-- C13
abbrev pub disagrees : PairValues → ℕ → Bool
disagrees pair tolerance = nat_lt tolerance ((pair.first - pair.second) + (pair.second - pair.first))

-- C14
abbrev pub used_pedal : List ℕ → Bool → ℕ
used_pedal tracks limp = if limp then 0 else min (falling_pair tracks).first (falling_pair tracks).second

-- C15
abbrev pub checked_raise : ℕ → ℕ → ℕ
checked_raise value check = if value + check == 65535 then value else 0

-- the bit of this size if a test is true, else 0
abbrev pub bit : ℕ → Bool → ℕ
bit size is_set = if is_set then size else 0

-- whether the bit of that size is set in a word
unfoldable pub has_bit : ℕ → ℕ → Bool
has_bit size word = word / size % 2 == 1

-- C13, with the bits of module 5 (C24). The tolerances stand in the order pedal, plate, load and speed.
abbrev pub pair_bits : Readings → List ℕ → ℕ
pair_bits r tolerances =
    bit PEDAL_PAIR (disagrees (falling_pair r.pedal) (slice_index tolerances 0))
    + bit PLATE_PAIR (disagrees (falling_pair r.plate) (slice_index tolerances 1))
    + bit LOAD_PAIR (disagrees (rising_pair r.load) (slice_index tolerances 2))
    + bit SPEED_PAIR (disagrees (rising_pair r.speed) (slice_index tolerances 3))

-- C12, C15, if the engine shows these two loads
abbrev pub sound_readings : ℕ → ℕ → List ℕ → ℕ → ℕ → Readings
sound_readings pedal plate loads speed raise = record {
  pedal = pedal ∷ (1000 - pedal) ∷ [];
  plate = plate ∷ (1000 - plate) ∷ [];
  load = loads;
  speed = speed ∷ speed ∷ [];
  raise = raise;
  raise_check = 65535 - raise;
}
