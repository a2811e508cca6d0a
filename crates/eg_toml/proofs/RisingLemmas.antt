-- Numbers that rise.
use Rattle.std.proofs.Common.{◌≡◌, ◌↔◌, IsTrue, ℕ, zero, suc, ◌<◌, nat_lt, Bool, true, false, List, [], ◌∷◌, refl, arith}
use Rattle.std.proofs.lemmas.Bool.{and_parts}
use Rattle.std.proofs.lemmas.Bool.Decides.{nat_tests}
use Rattle.std.specs.List.Sorted.{IsStrictlyIncreasing}
use native.Mathlib.Numerals.{unary_clauses}
use Rattle.eg_toml.specs.Arrays.{is_rising}

pub lt-true : (x y : ℕ) → x < y → nat_lt x y ≡ true
lt-true x y h = grind (arith, nat_tests)

pub true-lt : (x y : ℕ) → nat_lt x y ≡ true → x < y
true-lt x y h = grind (arith, nat_tests)

-- the test says that the numbers strictly rise
pub rising-true : (xs : List ℕ) → IsStrictlyIncreasing xs → is_rising xs ≡ true
rising-true [] h = refl
rising-true (x ∷ []) h = refl
rising-true (x ∷ y ∷ ys) h = rw (lt-true x y (h 0 (omega arith)), rising-true (y ∷ ys) (λ k below. simp unary_clauses (simp unary_clauses at (h (suc k) (omega arith)))))

pub true-rising : (xs : List ℕ) → is_rising xs ≡ true → IsStrictlyIncreasing xs
true-rising [] h k below = absurd (omega arith)
true-rising (x ∷ []) h k below = absurd (omega arith)
true-rising (x ∷ y ∷ ys) h zero below = true-lt x y (and_parts (nat_lt x y) (is_rising (y ∷ ys)) h).0
true-rising (x ∷ y ∷ ys) h (suc k) below = simp unary_clauses (simp unary_clauses at (true-rising (y ∷ ys) (and_parts (nat_lt x y) (is_rising (y ∷ ys)) h).1 k (omega arith)))

agree : (a b : Bool) → (a ≡ true → b ≡ true) → (b ≡ true → a ≡ true) → a ≡ b
agree true b there back = rw (there refl) refl
agree false true there back = back refl
agree false false there back = refl

-- whatever tests it, tells the same
pub rising-same : (xs : List ℕ) (b : Bool) → (IsTrue b ↔ IsStrictlyIncreasing xs) → b ≡ is_rising xs
rising-same xs b h = agree b (is_rising xs) (λ t. rising-true xs (h.0 t)) (λ e. h.1 (true-rising xs e))
