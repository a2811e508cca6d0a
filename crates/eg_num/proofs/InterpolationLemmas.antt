-- Laws of values between points.
use Rattle.std.proofs.Common.{◌≡◌, inl, inr, ℕ, zero, suc, ◌+◌, ◌*◌, ◌-◌, ◌≤◌, ◌<◌, List, [], ◌∷◌, length, refl, ap, sym, ◌∙◌, arith, add-one, subst}
use Rattle.std.proofs.Math.Nat.{mul-div_left}
use Rattle.std.specs.Prelude.{slice_index}
use Rattle.std.specs.List.Sorted.{IsStrictlyIncreasing}
use Rattle.std.proofs.lemmas.Bool.Decides.{nat_tests}
use Rattle.std.proofs.lemmas.Bool.{cases_lt}
use Rattle.eg_num.specs.Interpolation.{lerp, IsAxis, IsValueAt, value_at, IsLocated}

-- the ends of a pair
lerp-left : (x0 y0 x1 y1 : ℕ) → x0 < x1 → lerp x0 y0 x1 y1 x0 ≡ y0
lerp-left x0 y0 x1 y1 lt =
    let e : y0 * (x1 - x0) + y1 * (x0 - x0) ≡ y0 * (x1 - x0) = (let z : x0 - x0 ≡ 0 = omega arith in rw z (omega arith)) in
    rw e (mul-div_left y0 (omega arith))

lerp-right : (x0 y0 x1 y1 : ℕ) → x0 < x1 → lerp x0 y0 x1 y1 x1 ≡ y1
lerp-right x0 y0 x1 y1 lt =
    let e : y0 * (x1 - x1) + y1 * (x1 - x0) ≡ y1 * (x1 - x0) = (let z : x1 - x1 ≡ 0 = omega arith in rw z (omega arith)) in
    rw e (mul-div_left y1 (omega arith))

-- an axis without its first point rises too
pub rising-tail : (x : ℕ) (xs : List ℕ) → IsStrictlyIncreasing (x ∷ xs) → IsStrictlyIncreasing xs
rising-tail x xs h k below =
    let e : suc k + 1 ≡ suc (k + 1) = omega arith in
    let P : ℕ → Type 0 = λ n. slice_index (x ∷ xs) (suc k) < slice_index (x ∷ xs) n in
    subst P e (h (suc k) (omega arith))

-- the first point lies below each later one
rising-first : (x : ℕ) (xs : List ℕ) (i : ℕ) → IsStrictlyIncreasing (x ∷ xs) → i < length xs → x < slice_index xs i
rising-first x [] i h below = absurd (omega arith)
rising-first x (y ∷ ys) zero h below = h zero (omega arith)
rising-first x (y ∷ ys) (suc i) h below =
    let first : x < y = h zero (omega arith) in
    let rest : y < slice_index ys i = rising-first y ys i (rising-tail x (y ∷ ys) h) (omega arith) in
    omega arith

-- below the first point the first value holds
pub at-below : (points : List ℕ) (value : ℕ → ℕ) (x : ℕ) → 2 ≤ length points → x ≤ slice_index points 0 → value_at points value x ≡ value 0
unfolding value_at
at-below [] value x two h = absurd (omega arith)
at-below (x0 ∷ []) value x two h = absurd (omega arith)
at-below (x0 ∷ x1 ∷ xs) value x two h = grind (arith, nat_tests)

-- the three cases at two points or more
at-low : (x0 x1 : ℕ) (xs : List ℕ) (value : ℕ → ℕ) (x : ℕ) → x ≤ x0 → value_at (x0 ∷ x1 ∷ xs) value x ≡ value 0
unfolding value_at
at-low x0 x1 xs value x h = grind (arith, nat_tests)

at-mid : (x0 x1 : ℕ) (xs : List ℕ) (value : ℕ → ℕ) (x : ℕ) → x0 < x → x ≤ x1 → value_at (x0 ∷ x1 ∷ xs) value x ≡ lerp x0 (value 0) x1 (value 1) x
unfolding value_at
at-mid x0 x1 xs value x h k = grind (arith, nat_tests)

at-high : (x0 x1 : ℕ) (xs : List ℕ) (value : ℕ → ℕ) (x : ℕ) → x0 < x → x1 < x → value_at (x0 ∷ x1 ∷ xs) value x ≡ value_at (x1 ∷ xs) (λ i. value (suc i)) x
unfolding value_at
at-high x0 x1 xs value x h k = grind (arith, nat_tests)

-- at the second point
at-second : (x0 x1 : ℕ) (xs : List ℕ) (value : ℕ → ℕ) → x0 < x1 → value_at (x0 ∷ x1 ∷ xs) value x1 ≡ value 1
at-second x0 x1 xs value lt = at-mid x0 x1 xs value x1 lt (omega arith) ∙ lerp-right x0 (value 0) x1 (value 1) lt

-- past the last point the last value holds
at-last : (first : ℕ) (points : List ℕ) (value : ℕ → ℕ) (x : ℕ) → IsStrictlyIncreasing (first ∷ points) →
    slice_index (first ∷ points) (length points) ≤ x → value_at (first ∷ points) value x ≡ value (length points)
unfolding value_at
at-last x0 [] value x rising h = refl
at-last x0 (x1 ∷ xs) value x rising h =
    let near : x0 < x1 = rising zero (omega arith) in
    let rest : value_at (x1 ∷ xs) (λ i. value (suc i)) x ≡ value (suc (length xs)) = at-last x1 xs (λ i. value (suc i)) x (rising-tail x0 (x1 ∷ xs) rising) h in
    elim (cases_lt x1 x) [
      | inl past ↦ at-high x0 x1 xs value x (omega arith) past ∙ rest
      | inr upto ↦ (elim xs as (λ ys. IsStrictlyIncreasing (x0 ∷ x1 ∷ ys) → slice_index (x0 ∷ x1 ∷ ys) (suc (length ys)) ≤ x →
          value_at (x0 ∷ x1 ∷ ys) value x ≡ value (suc (length ys))) [
            | [] ↦ λ r e. (let same : x1 ≡ x = omega arith in let P : ℕ → Type 0 = λ n. value_at (x0 ∷ x1 ∷ []) value n ≡ value 1 in subst P same (at-second x0 x1 [] value near))
            | x2 ∷ ys ↦ λ r e. (let more : x1 < slice_index (x2 ∷ ys) (length ys) =
                rising-first x1 (x2 ∷ ys) (length ys) (rising-tail x0 (x1 ∷ x2 ∷ ys) r) (omega arith) in absurd (omega arith))
          ]) rising h
    ]

pub at-above : (points : List ℕ) (value : ℕ → ℕ) (x : ℕ) → IsStrictlyIncreasing points → 2 ≤ length points → slice_index points (length points - 1) ≤ x →
    value_at points value x ≡ value (length points - 1)
at-above [] value x rising two h = absurd (omega arith)
at-above (x0 ∷ xs) value x rising two h =
    let e : length (x0 ∷ xs) - 1 ≡ length xs = omega arith in
    let P : ℕ → Type 0 = λ n. slice_index (x0 ∷ xs) n ≤ x in
    at-last x0 xs value x rising (subst P e h) ∙ ap value (sym e)

-- between two neighbours, the second named as the successor of the first
at-next : (points : List ℕ) (value : ℕ → ℕ) (x i : ℕ) → IsStrictlyIncreasing points → i + 1 < length points → slice_index points i ≤ x → x ≤ slice_index points (suc i) →
    value_at points value x ≡ lerp (slice_index points i) (value i) (slice_index points (suc i)) (value (suc i)) x
at-next [] value x i rising below from to = absurd (omega arith)
at-next (x0 ∷ []) value x i rising below from to = absurd (omega arith)
at-next (x0 ∷ x1 ∷ xs) value x zero rising below from to =
    let near : x0 < x1 = rising zero (omega arith) in
    elim (cases_lt x0 x) [
      | inl past ↦ at-mid x0 x1 xs value x past to
      | inr upto ↦ (let same : x0 ≡ x = omega arith in
          let P : ℕ → Type 0 = λ n. value 0 ≡ lerp x0 (value 0) x1 (value 1) n in
          at-low x0 x1 xs value x upto ∙ subst P same (sym (lerp-left x0 (value 0) x1 (value 1) near)))
    ]
at-next (x0 ∷ x1 ∷ xs) value x (suc i) rising below from to =
    let near : x0 < x1 = rising zero (omega arith) in
    let rest = at-next (x1 ∷ xs) (λ i. value (suc i)) x i (rising-tail x0 (x1 ∷ xs) rising) (omega arith) from to in
    elim (cases_lt x1 x) [
      | inl past ↦ at-high x0 x1 xs value x (omega arith) past ∙ rest
      | inr upto ↦ (elim i as (λ k. suc k + 1 < length (x0 ∷ x1 ∷ xs) → slice_index (x1 ∷ xs) k ≤ x →
          value_at (x0 ∷ x1 ∷ xs) value x ≡ lerp (slice_index (x1 ∷ xs) k) (value (suc k)) (slice_index xs k) (value (suc (suc k))) x) [
            | zero ↦ λ b f. (let same : x1 ≡ x = omega arith in
                let next : x1 < slice_index xs 0 = rising-first x1 xs 0 (rising-tail x0 (x1 ∷ xs) rising) (omega arith) in
                let P : ℕ → Type 0 = λ n. value_at (x0 ∷ x1 ∷ xs) value n ≡ lerp x1 (value 1) (slice_index xs 0) (value 2) n in
                subst P same (at-second x0 x1 xs value near ∙ sym (lerp-left x1 (value 1) (slice_index xs 0) (value 2) next)))
            | suc k ↦ λ b f. (let more : x1 < slice_index xs k = rising-first x1 xs k (rising-tail x0 (x1 ∷ xs) rising) (omega arith) in absurd (omega arith))
          ]) below from
    ]

-- between two neighbours
pub at-pair : (points : List ℕ) (value : ℕ → ℕ) (x i : ℕ) → IsStrictlyIncreasing points → i + 1 < length points → slice_index points i ≤ x → x ≤ slice_index points (i + 1) →
    value_at points value x ≡ lerp (slice_index points i) (value i) (slice_index points (i + 1)) (value (i + 1)) x
at-pair points value x i rising below from to =
    let P : ℕ → Type 0 = λ n. x ≤ slice_index points n → value_at points value x ≡ lerp (slice_index points i) (value i) (slice_index points n) (value n) x in
    subst P (sym (add-one i)) (at-next points value x i rising below from) to

-- the function is the value of any pair that encloses
pub value_at-is : (points : List ℕ) (value : ℕ → ℕ) (x : ℕ) → IsAxis points → IsValueAt points value x (value_at points value x)
value_at-is points value x ok = record {
  below = at-below points value x ok.0;
  above = at-above points value x ok.2 ok.0;
  between = λ i below from to. at-pair points value x i ok.2 below from to;
}

-- the place that is located, by where x lies
pub at-located_low : (points : List ℕ) (value : ℕ → ℕ) (x i : ℕ) → IsAxis points → IsLocated points x i → x ≤ slice_index points i → value_at points value x ≡ value i
at-located_low points value x i ok at h = elim (cases_lt x (slice_index points 0)) [
  | inl before ↦ at-below points value x ok.0 (omega arith) ∙ ap value (sym (at.before before))
  | inr from ↦ (let here : slice_index points i ≡ x = (let e = at.at_most from in omega arith) in
      let P : ℕ → Type 0 = λ n. value_at points value n ≡ value i in
      let rise : slice_index points i < slice_index points (i + 1) = ok.2 i (let e = at.within in omega arith) in
      subst P here (at-pair points value (slice_index points i) i ok.2 (let e = at.within in omega arith) (omega arith) (omega arith) ∙ lerp-left _ _ _ _ rise))
]

pub at-located_high : (points : List ℕ) (value : ℕ → ℕ) (x i : ℕ) → IsAxis points → IsLocated points x i → slice_index points (i + 1) ≤ x → value_at points value x ≡ value (i + 1)
at-located_high points value x i ok at h = elim (cases_lt (i + 2) (length points)) [
  | inl room ↦ (let e : i + 1 ≤ i = at.greatest (i + 1) (omega arith) h in absurd (omega arith))
  | inr end ↦ (let last : length points - 1 ≡ i + 1 = (let e = at.within in omega arith) in
      let P : ℕ → Type 0 = λ n. slice_index points n ≤ x in
      at-above points value x ok.2 ok.0 (subst P (sym last) h) ∙ ap value last)
]
