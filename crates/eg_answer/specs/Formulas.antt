-- What level 2 computes of readings and of test rows alike: permitted torque, estimate, excess and pairs
-- (C30, C47). The lower of the two pedal values is `used_pedal` of the sensors.
use Rattle.std.specs.Prelude.{ℕ, max, slice_index}
use Rattle.eg_num.specs.Arithmetic.{estimate}
use Rattle.eg_torque.specs.Permit.{permitted}
use Rattle.eg_torque.specs.Excess.{is_excess}
use Rattle.eg_sensor.specs.Readings.{checked_raise, bit, pair_bits}
use Rattle.eg_sensor.specs.declared.readings.Readings.{Readings}
use Rattle.eg_answer.specs.declared.formulas.TheConstants.{EXCESS_BIT}
use Rattle.eg_answer.specs.declared.rules.Rules.{Rules}

-- the permitted torque by a pedal: the lower of what the two speeds give, or the raise if it counts (C15)
unfoldable pub permitted_torque : Rules → Readings → ℕ → ℕ
permitted_torque rules readings pedal =
    permitted rules.permit pedal (slice_index readings.speed 0) (slice_index readings.speed 1)
    (checked_raise readings.raise readings.raise_check)

-- the estimate (C6) of the higher of the two loads
unfoldable pub estimated_torque : Rules → Readings → ℕ
estimated_torque rules readings =
    estimate rules.kt (max (slice_index readings.load 0) (slice_index readings.load 1))

-- the bit of the excess (C7), else 0
unfoldable pub excess_number : Rules → (allowed estimated : ℕ) → ℕ
excess_number rules allowed estimated = bit EXCESS_BIT (is_excess estimated allowed rules.threshold)

-- the bits of the pairs that disagree (C13)
unfoldable pub disagreeing_pairs : Rules → Readings → ℕ
disagreeing_pairs rules readings = pair_bits readings rules.tolerances
