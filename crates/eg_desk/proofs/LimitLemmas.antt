-- The limits of a calibration are small numbers.
use Rattle.std.proofs.Common.{◌≡◌, ℕ, ◌+◌, ◌-◌, ◌*◌, ◌/◌, ◌≤◌, ◌<◌, List, [], ◌∷◌, All, max, min, arith}
use Rattle.std.specs.List.{fold}
use Rattle.std.proofs.Math.Nat.{div-le_of_le-mul, div-mul-le_self, mul-le-mul}
use Rattle.std.proofs.lemmas.List.Elements.{All-head, All-tail}
use Rattle.eg_num.specs.Windows.{WeightParts}
use Rattle.eg_answer.specs.Times.{TimeParts, feeds_to_confirm, reaction_of, rights_between, most_wrong, further_ticks, longest_missed_of}
use Rattle.eg_plant.specs.PlantParts.{PlantParts, ArePlantParts}

pub reaction-small : (t : TimeParts) → feeds_to_confirm t.weights ≤ 10000 → t.period ≤ 100 → reaction_of t ≤ 1000100
unfolding reaction_of
reaction-small t few short =
    let periods : feeds_to_confirm t.weights + 1 ≤ 10001 = omega (arith, few) in
    let ticks : (feeds_to_confirm t.weights + 1) * t.period ≤ 10001 * 100 = mul-le-mul periods short in
    omega (arith, ticks)

-- the longest stretch under lapses, where D runs confirm an excess
pub missed-small : (torque : WeightParts) (t : TimeParts) → feeds_to_confirm torque ≤ 10000 → feeds_to_confirm t.weights ≤ 10000 →
    2 ≤ t.period → t.period ≤ 100 → longest_missed_of torque t < 200000000
unfolding longest_missed_of further_ticks most_wrong rights_between
missed-small torque t runs verdicts some short =
    let rights : (feeds_to_confirm torque - 2) / t.period * t.period ≤ feeds_to_confirm torque - 2 = div-mul-le_self (feeds_to_confirm torque - 2) t.period in
    let more = law (feeds_to_confirm t.weights) ((feeds_to_confirm torque - 2) / t.period) t.period
    ((t.weights.limit - 1 + (feeds_to_confirm torque - 2) / t.period * t.weights.down) / t.weights.up + 1) verdicts (omega (arith, rights, runs)) in
    omega (arith, more, reaction-small t verdicts short, runs)
  where
    scaled : (a b p : ℕ) → a ≤ b → a * p ≤ b * p
    scaled a b p l = grind arith

    law : (n r p first : ℕ) → n ≤ 10000 → r * p ≤ 10000 → (min first (n + r * (n - 1)) - n) * p ≤ 100000000
    law n r p first small few =
        let one = scaled (min first (n + r * (n - 1)) - n) (r * (n - 1)) p (omega arith) in
        let two = scaled (r * p) 10000 (n - 1) few in
        let same : r * (n - 1) * p ≡ r * p * (n - 1) = turned r (n - 1) p in
        omega (arith, one, two, same, small)
      where
        turned : (a b c : ℕ) → a * b * c ≡ a * c * b
        turned a b c = grind arith

greatest-most : (most : ℕ) (ns : List ℕ) (n : ℕ) → n ≤ most → All (λ m. m ≤ most) ns → fold max n ns ≤ most
greatest-most most [] n here all = here
greatest-most most (m ∷ ns) n here all =
    let head = All-head (λ k. k ≤ most) m ns all in
    greatest-most most ns (max n m) (omega (arith, here, head)) (All-tail (λ k. k ≤ most) m ns all)

pub torque-small : (plant : PlantParts) → ArePlantParts plant → fold max 0 plant.charge.values * plant.kt / 1000 ≤ 10000
torque-small plant parts =
    let full : fold max 0 plant.charge.values * plant.kt ≤ 1000 * 10000 =
    mul-le-mul (greatest-most 1000 plant.charge.values 0 (omega arith) parts.charges) parts.kt_most in
    div-le_of_le-mul 1000 (omega (arith, full))
