-- Pairs at their tolerance, a falling track past its end, and raises with their check words, computed from the
-- definitions.
use Rattle.std.proofs.Common.{◌≡◌, ℕ, ◌+◌, [], ◌∷◌, true, false, map, refl}
use Rattle.eg_sensor.specs.Brake.{sound_contacts, is_pressed, gated}
use Rattle.eg_sensor.specs.Readings.{falling_value, rising_pair, falling_pair, disagrees, used_pedal, checked_raise, has_bit, pair_bits}
use Rattle.eg_sensor.specs.declared.readings.Readings.{Readings}

-- ---- a pair at exactly its tolerance agrees, and one more disagrees ----

-- two tracks that rise, where either may be the higher one
rising : map (λ tracks. disagrees (rising_pair tracks) 50) ((300 ∷ 350 ∷ []) ∷ (300 ∷ 351 ∷ []) ∷ (350 ∷ 300 ∷ []) ∷ (351 ∷ 300 ∷ []) ∷ [])
    ≡ false ∷ true ∷ false ∷ true ∷ []
rising = refl

-- two tracks of which the second falls: 650 stands for 350, and 649 for 351
falling : map (λ tracks. disagrees (falling_pair tracks) 50) ((300 ∷ 650 ∷ []) ∷ (300 ∷ 649 ∷ []) ∷ (350 ∷ 700 ∷ []) ∷ (351 ∷ 700 ∷ []) ∷ [])
    ≡ false ∷ true ∷ false ∷ true ∷ []
falling = refl

-- each pair at its tolerance of 50, and each one off, whose bits add up to 15
abbrev torn : ℕ → Readings
torn off = record {
  pedal = 300 ∷ 650 ∷ [];
  plate = 100 ∷ 850 ∷ [];
  load = 200 ∷ (250 + off) ∷ [];
  speed = (850 + off) ∷ 800 ∷ [];
  raise = 0;
  raise_check = 65535;
}

all_pairs : map (λ tolerance. pair_bits (torn 0) (tolerance ∷ tolerance ∷ tolerance ∷ tolerance ∷ [])) (50 ∷ 49 ∷ []) ≡ 0 ∷ 15 ∷ []
all_pairs = refl

two_pairs : pair_bits (torn 1) (50 ∷ 50 ∷ 50 ∷ 50 ∷ []) ≡ 12
two_pairs = refl

-- what debounce reads of 12: not the bits 1 and 2, but 4 and 8
bits : map (λ size. has_bit size 12) (1 ∷ 2 ∷ 4 ∷ 8 ∷ []) ≡ false ∷ false ∷ true ∷ true ∷ []
unfolding has_bit
bits = refl

-- ---- a falling track ----

-- a reading above 1000 stands for 0
past_its_end : map falling_value (0 ∷ 999 ∷ 1000 ∷ 1001 ∷ 65535 ∷ []) ≡ 1000 ∷ 1 ∷ 0 ∷ 0 ∷ 0 ∷ []
past_its_end = refl

-- the pedal that is used is the lower of the two values, whichever track it is on, and 0 in limited operation
pedals : map (λ tracks. used_pedal tracks false) ((300 ∷ 699 ∷ []) ∷ (300 ∷ 701 ∷ []) ∷ (300 ∷ 1001 ∷ []) ∷ []) ≡ 300 ∷ 299 ∷ 0 ∷ []
pedals = refl

limited : used_pedal (300 ∷ 700 ∷ []) true ≡ 0
limited = refl

-- ---- the raise and its check word ----

-- a raise and its check word add up to 65535, or are one off on either side
raises : map (λ check. checked_raise 600 check) (64935 ∷ 64934 ∷ 64936 ∷ []) ≡ 600 ∷ 0 ∷ 0 ∷ []
raises = refl

-- ---- the brake ----

-- what both contacts read where it is pressed, and where it isn't
contacts : map sound_contacts (true ∷ false ∷ []) ≡ (1 ∷ 0 ∷ []) ∷ (0 ∷ 1 ∷ []) ∷ []
contacts = refl

-- the brake is taken as pressed where both contacts say so, where the first alone does, by 1 or by another number,
-- and where the second alone does; not where neither does, and the second may read another number than 1 then
said : map is_pressed ((1 ∷ 0 ∷ []) ∷ (1 ∷ 1 ∷ []) ∷ (6 ∷ 1 ∷ []) ∷ (0 ∷ 0 ∷ []) ∷ (0 ∷ 1 ∷ []) ∷ (0 ∷ 6 ∷ []) ∷ [])
    ≡ true ∷ true ∷ true ∷ true ∷ false ∷ false ∷ []
said = refl

-- pedal and raise are gated, and nothing else
gated_torn : gated (record (torn 3) { raise = 600; raise_check = 64935 }) ≡ record {
  pedal = 0 ∷ 1000 ∷ [];
  plate = 100 ∷ 850 ∷ [];
  load = 200 ∷ 253 ∷ [];
  speed = 853 ∷ 800 ∷ [];
  raise = 0;
  raise_check = 65535;
}
gated_torn = refl
