-- What a step of the gasoline plant keeps: plate and charge stay within their ranges, and the estimate of the
-- charge covers the torque.
use Rattle.std.proofs.Common.{◌≡◌, ℕ, suc, ◌+◌, ◌-◌, ◌*◌, ◌/◌, ◌≤◌, inl, inr, Bool, true, false, nat_le, List, [], ◌∷◌, length, refl, arith}
use Rattle.std.specs.Prelude.{All, min, if◌then◌else◌, slice_index}
use Rattle.std.proofs.lemmas.Bool.Decides.{nat_tests}
use Rattle.std.proofs.lemmas.Bool.{leb-true, leb-false, cases_lt}
use Rattle.std.proofs.lemmas.List.{get_or_past}
use Rattle.std.proofs.Math.Nat.{div-le_of_le-mul, mul-le-mul}
use Rattle.eg_num.specs.Arithmetic.{estimate, moved_toward}
use Rattle.eg_num.specs.Interpolation.{Curve, lerp, value_at, curve_at}
use Rattle.eg_plant.specs.Gasoline.{next_charge, torque_of}
use Rattle.eg_plant.specs.PlantParts.{PlantParts, ArePlantParts}

-- between two points no value lies above what neither value exceeds
lerp-most : (most x0 y0 x1 y1 x : ℕ) → x0 ≤ x → x ≤ x1 → y0 ≤ most → y1 ≤ most → lerp x0 y0 x1 y1 x ≤ most
lerp-most most x0 y0 x1 y1 x from to left right =
    div-le_of_le-mul (x1 - x0) (sums y0 y1 (x1 - x) (x - x0) (x1 - x0) left right (omega arith))
  where
    sums : (a b u v w : ℕ) → a ≤ most → b ≤ most → w ≡ u + v → a * u + b * v ≤ w * most
    sums a b u v w l m e = rw e (grind arith)

-- the value at a place of a table doesn't exceed what no value of it exceeds
value_at-most : (most : ℕ) (points : List ℕ) (value : ℕ → ℕ) (x : ℕ) → ((i : ℕ) → value i ≤ most) → value_at points value x ≤ most
unfolding value_at
value_at-most most [] value x under = omega arith
value_at-most most (x0 ∷ []) value x under = under 0
value_at-most most (x0 ∷ x1 ∷ xs) value x under =
    choice (nat_le x x0) (nat_le x x1) refl refl (value_at-most most (x1 ∷ xs) (λ i. value (suc i)) x (λ i. under (suc i)))
  where
    choice : (p q : Bool) → nat_le x x0 ≡ p → nat_le x x1 ≡ q → value_at (x1 ∷ xs) (λ i. value (suc i)) x ≤ most
        → (if p then value 0 else if q then lerp x0 (value 0) x1 (value 1) x else value_at (x1 ∷ xs) (λ i. value (suc i)) x) ≤ most
    choice true q e f rest = under 0
    choice false true e f rest = lerp-most most x0 (value 0) x1 (value 1) x (let h = leb-false _ _ e in omega arith) (leb-true _ _ f) (under 0) (under 1)
    choice false false e f rest = rest

-- the charge of a plate angle is at most what no charge of the table exceeds
pub curve_at-most : (most : ℕ) (c : Curve) (x : ℕ) → All (λ charge. charge ≤ most) c.values → curve_at c x ≤ most
curve_at-most most c x charges = value_at-most most c.axis (slice_index c.values) x (at c.values charges)
  where
    at : (values : List ℕ) → All (λ charge. charge ≤ most) values → (i : ℕ) → slice_index values i ≤ most
    at values charges i = elim (cases_lt i (length values)) [
      | inl within ↦ charges i 0 within
      | inr past ↦ (let nothing = get_or_past values i 0 past in omega arith)
    ]

-- what moves toward a target stays within what neither exceeds
pub moved_toward-most : (most now target step : ℕ) → now ≤ most → target ≤ most → moved_toward now target step ≤ most
moved_toward-most most now target step h k = grind (arith, nat_tests)

-- the charge stays at most 1000
pub next_charge-most : (p : PlantParts) (plate charge : ℕ) → ArePlantParts p → charge ≤ 1000 → next_charge p plate charge ≤ 1000
unfolding next_charge
next_charge-most p plate charge parts h = moved_toward-most 1000 charge _ p.fill h (curve_at-most 1000 p.charge plate parts.charges)

-- the torque of a charge isn't more than its estimate
pub torque_of-covered : (kt charge ignition : ℕ) (on : Bool) → charge ≤ 1000 → kt ≤ 10000 → torque_of kt charge ignition on ≤ estimate kt charge
unfolding torque_of
torque_of-covered kt charge ignition false h k = omega arith
torque_of-covered kt charge ignition true h k = covered (charge * kt) (min ignition 1000) (omega arith) (mul-le-mul h k)
  where
    covered : (full efficiency : ℕ) → efficiency ≤ 1000 → full ≤ 10000000 → full * efficiency / 1000000 ≤ min 65535 ((full + 999) / 1000)
    covered full efficiency e f =
        let part : full * efficiency ≤ 1000000 * ((full + 999) / 1000) = grind arith in
        let at = div-le_of_le-mul 1000000 part in
        omega arith

-- no torque while the stages are off
pub torque_of-off : (kt charge ignition : ℕ) (on : Bool) → on ≡ false → torque_of kt charge ignition on ≡ 0
unfolding torque_of
torque_of-off kt charge ignition on off = rw off refl

-- the laws of a step
pub ruleset laws = (next_charge-most, torque_of-covered, torque_of-off)
