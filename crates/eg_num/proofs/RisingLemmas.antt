-- What doesn't fall: quotients, the torque estimate, and values between points.
use Rattle.std.proofs.Common.{◌≡◌, ℕ, zero, suc, ◌+◌, ◌-◌, ◌*◌, ◌/◌, ◌≤◌, ◌<◌, Bool, true, false, nat_le, List, [], ◌∷◌, length, refl, subst, arith, add-one}
use Rattle.std.specs.Prelude.{if◌then◌else◌}
use Rattle.std.specs.List.Sorted.{IsStrictlyIncreasing}
use Rattle.std.proofs.lemmas.Bool.{leb-true, leb-false}
use Rattle.std.proofs.Math.Nat.{div-zero, div-mul-le_self, div-le_of_le-mul}
use Rattle.std.proofs.lemmas.Nat.{le-div}
use Rattle.eg_num.specs.Arithmetic.{estimate}
use Rattle.eg_num.specs.Interpolation.{lerp, value_at}
use Rattle.eg_num.proofs.InterpolationLemmas.{rising-tail}

-- a quotient doesn't fall with what is divided
pub div-rises : (a b k : ℕ) → a ≤ b → a / k ≤ b / k
div-rises a b zero h = let x = div-zero a in let y = div-zero b in omega arith
div-rises a b (suc k) h = le-div (a / suc k) b (suc k) (omega arith) (let f = div-mul-le_self a (suc k) in omega arith)

-- the torque estimate doesn't fall with its load
pub estimate-rises : (kt a b : ℕ) → a ≤ b → estimate kt a ≤ estimate kt b
estimate-rises kt a b h = let loads : a * kt + (1000 - 1) ≤ b * kt + (1000 - 1) = grind arith in
    let quotients : (a * kt + (1000 - 1)) / 1000 ≤ (b * kt + (1000 - 1)) / 1000 = div-rises (a * kt + (1000 - 1)) (b * kt + (1000 - 1)) 1000 loads in
    omega arith

-- on the line between two points, the value doesn't fall where the values at the points rise,
lerp-under : (x0 low0 high0 x1 low1 high1 x : ℕ) → low0 ≤ high0 → low1 ≤ high1 → lerp x0 low0 x1 low1 x ≤ lerp x0 high0 x1 high1 x
lerp-under x0 low0 high0 x1 low1 high1 x h0 h1 = div-rises _ _ (x1 - x0) (sums low0 high0 low1 high1 (x1 - x) (x - x0) h0 h1)
  where
    sums : (a b c d u v : ℕ) → a ≤ b → c ≤ d → a * u + c * v ≤ b * u + d * v
    sums a b c d u v l m = grind arith

-- nor with the place where the right value isn't below the left,
lerp-rises : (x0 y0 x1 y1 p q : ℕ) → x0 ≤ p → p ≤ q → q ≤ x1 → y0 ≤ y1 → lerp x0 y0 x1 y1 p ≤ lerp x0 y0 x1 y1 q
lerp-rises x0 y0 x1 y1 p q from h to rise = div-rises _ _ (x1 - x0) (sums y0 y1 (p - x0) (q - p) (x1 - q) (x1 - p) (q - x0) rise (omega arith) (omega arith))
  where
    sums : (a b u d v w z : ℕ) → a ≤ b → w ≡ d + v → z ≡ u + d → a * w + b * u ≤ a * v + b * z
    sums a b u d v w z l e f = rw (e, f) (grind arith)

-- and then it lies between the two values
lerp-least : (x0 y0 x1 y1 x : ℕ) → x0 < x1 → x0 ≤ x → x ≤ x1 → y0 ≤ y1 → y0 ≤ lerp x0 y0 x1 y1 x
lerp-least x0 y0 x1 y1 x apart from to rise = le-div y0 _ (x1 - x0) (omega arith) (sums y0 y1 (x1 - x) (x - x0) (x1 - x0) rise (omega arith))
  where
    sums : (a b u v w : ℕ) → a ≤ b → w ≡ u + v → a * w ≤ a * u + b * v
    sums a b u v w l e = rw e (grind arith)

lerp-most : (x0 y0 x1 y1 x : ℕ) → x0 < x1 → x0 ≤ x → x ≤ x1 → y0 ≤ y1 → lerp x0 y0 x1 y1 x ≤ y1
lerp-most x0 y0 x1 y1 x apart from to rise = div-le_of_le-mul (x1 - x0) (sums y0 y1 (x1 - x) (x - x0) (x1 - x0) rise (omega arith))
  where
    sums : (a b u v w : ℕ) → a ≤ b → w ≡ u + v → a * u + b * v ≤ w * b
    sums a b u v w l e = rw e (grind arith)

-- a choice by the same two tests doesn't fall where each of its values rises
choice-under : {a b c d e f : ℕ} (p q : Bool) → a ≤ b → c ≤ d → e ≤ f → (if p then a else if q then c else e) ≤ (if p then b else if q then d else f)
choice-under true q l m r = l
choice-under false true l m r = m
choice-under false false l m r = r

-- the value at a place doesn't fall where the value at each point rises
pub value_at-under : (points : List ℕ) (low high : ℕ → ℕ) (x : ℕ) → ((i : ℕ) → i < length points → low i ≤ high i) → value_at points low x ≤ value_at points high x
unfolding value_at
value_at-under [] low high x under = omega arith
value_at-under (x0 ∷ []) low high x under = under 0 (omega arith)
value_at-under (x0 ∷ x1 ∷ xs) low high x under =
    let first : low 0 ≤ high 0 = under 0 (omega arith) in
    let second : low 1 ≤ high 1 = under 1 (omega arith) in
    choice-under (nat_le x x0) (nat_le x x1) first (lerp-under x0 (low 0) (high 0) x1 (low 1) (high 1) x first second)
    (value_at-under (x1 ∷ xs) (λ i. low (suc i)) (λ i. high (suc i)) x (λ i below. under (suc i) (omega arith)))

-- no value lies above the next, among the points of a list
Climbs : List ℕ → (ℕ → ℕ) → Type 0
Climbs points value = (i : ℕ) → suc i < length points → value i ≤ value (suc i)

-- where the values climb, the value at a place isn't below the first,
at-least : (x0 : ℕ) (xs : List ℕ) (value : ℕ → ℕ) (x : ℕ) → IsStrictlyIncreasing (x0 ∷ xs) → Climbs (x0 ∷ xs) value → value 0 ≤ value_at (x0 ∷ xs) value x
unfolding value_at Climbs
at-least x0 [] value x rising climbs = omega arith
at-least x0 (x1 ∷ xs) value x rising climbs =
    choice (rising 0 (omega arith)) (climbs 0 (omega arith)) (at-least x1 xs (λ i. value (suc i)) x (rising-tail x0 (x1 ∷ xs) rising) (λ i below. climbs (suc i) (omega arith))) (nat_le x x0) (nat_le x x1) refl refl
  where
    choice : x0 < x1 → value 0 ≤ value 1 → value 1 ≤ value_at (x1 ∷ xs) (λ i. value (suc i)) x → (p q : Bool) → nat_le x x0 ≡ p → nat_le x x1 ≡ q
        → value 0 ≤ (if p then value 0 else if q then lerp x0 (value 0) x1 (value 1) x else value_at (x1 ∷ xs) (λ i. value (suc i)) x)
    choice apart rise rest true q e f = omega arith
    choice apart rise rest false true e f = lerp-least x0 (value 0) x1 (value 1) x apart (let l = leb-false _ _ e in omega arith) (leb-true _ _ f) rise
    choice apart rise rest false false e f = omega arith

-- and doesn't fall with the place
at-rises : (points : List ℕ) (value : ℕ → ℕ) (p q : ℕ) → IsStrictlyIncreasing points → Climbs points value → p ≤ q → value_at points value p ≤ value_at points value q
unfolding value_at Climbs
at-rises [] value p q rising climbs h = omega arith
at-rises (x0 ∷ []) value p q rising climbs h = omega arith
at-rises (x0 ∷ x1 ∷ xs) value p q rising climbs h =
    let tail = rising-tail x0 (x1 ∷ xs) rising in
    let later : Climbs (x1 ∷ xs) (λ i. value (suc i)) = λ i below. climbs (suc i) (omega arith) in
    choice (rising 0 (omega arith)) (climbs 0 (omega arith)) (at-rises (x1 ∷ xs) (λ i. value (suc i)) p q tail later h) (at-least x1 xs (λ i. value (suc i)) q tail later)
    (nat_le p x0) (nat_le p x1) (nat_le q x0) (nat_le q x1) refl refl refl refl
  where
    choice : x0 < x1 → value 0 ≤ value 1 → value_at (x1 ∷ xs) (λ i. value (suc i)) p ≤ value_at (x1 ∷ xs) (λ i. value (suc i)) q → value 1 ≤ value_at (x1 ∷ xs) (λ i. value (suc i)) q
        → (a b c d : Bool) → nat_le p x0 ≡ a → nat_le p x1 ≡ b → nat_le q x0 ≡ c → nat_le q x1 ≡ d
        → (if a then value 0 else if b then lerp x0 (value 0) x1 (value 1) p else value_at (x1 ∷ xs) (λ i. value (suc i)) p)
        ≤ (if c then value 0 else if d then lerp x0 (value 0) x1 (value 1) q else value_at (x1 ∷ xs) (λ i. value (suc i)) q)
    choice apart rise rest least true b true d ea eb ec ed = omega arith
    choice apart rise rest least true b false true ea eb ec ed = lerp-least x0 (value 0) x1 (value 1) q apart (let n = leb-false _ _ ec in omega arith) (leb-true _ _ ed) rise
    choice apart rise rest least true b false false ea eb ec ed = omega arith
    choice apart rise rest least false b true d ea eb ec ed = absurd (let n = leb-false _ _ ea in let m = leb-true _ _ ec in omega arith)
    choice apart rise rest least false true false true ea eb ec ed = lerp-rises x0 (value 0) x1 (value 1) p q (let n = leb-false _ _ ea in omega arith) h (leb-true _ _ ed) rise
    choice apart rise rest least false true false false ea eb ec ed = let m = lerp-most x0 (value 0) x1 (value 1) p apart (let n = leb-false _ _ ea in omega arith) (leb-true _ _ eb) rise in omega arith
    choice apart rise rest least false false false true ea eb ec ed = absurd (let n = leb-false _ _ eb in let m = leb-true _ _ ed in omega arith)
    choice apart rise rest least false false false false ea eb ec ed = rest

-- the value at a place doesn't fall with the place where no value at a point lies above the next
pub value_at-rises : (points : List ℕ) (value : ℕ → ℕ) (p q : ℕ) → IsStrictlyIncreasing points → ((i : ℕ) → i + 1 < length points → value i ≤ value (i + 1)) → p ≤ q
    → value_at points value p ≤ value_at points value q
unfolding Climbs
value_at-rises points value p q rising climbs h =
    at-rises points value p q rising (λ i below. let P : ℕ → Type 0 = λ n. value i ≤ value n in subst P (add-one i) (climbs i (omega arith))) h
