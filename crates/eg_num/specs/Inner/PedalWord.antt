-- A pedal and two truth values are kept as one number: four times the pedal, and 2 and 1 for the truth
-- values.
use Rattle.std.specs.Prelude.{◌≡◌, ℕ, ◌+◌, ◌*◌, ◌/◌, ◌%◌, ◌==◌, Bool, if◌then◌else◌}
use Rattle.std.proofs.Common.{arith}

pub record PedalParts : Type 0 where
  pub pedal : ℕ
  pub reset : Bool
  pub brake : Bool

abbrev pub word_of : PedalParts → ℕ
word_of parts = 4 * parts.pedal + 2 * (if parts.reset then 1 else 0) + (if parts.brake then 1 else 0)

abbrev pub parts_of : ℕ → PedalParts
parts_of word = record { pedal = word / 4; reset = word / 2 % 2 == 1; brake = word % 2 == 1 }

-- each number is that of what it holds
pub word_of-parts_of : (word : ℕ) → word_of (parts_of word) ≡ word
word_of-parts_of word = Prim.grind arith
