-- Whether some number below a count passes a test.
use Rattle.std.proofs.Common.{◌≡◌, ◌∙◌, ℕ, ◌<◌, Bool, true, false, ◌||◌, List, [], ◌∷◌, get_or, refl, sym, ap, subst, arith}
use Rattle.std.specs.List.{list_any, range_with_len}
use Rattle.std.proofs.lemmas.List.Folds.{Any-from_list_any, list_any_at}
use Rattle.std.proofs.lemmas.List.FromFn.{length-range_with_len, get_or-range_with_len}

-- the numbers below a count, each at its own place
number_at : (n k d : ℕ) → k < n → get_or (range_with_len 0 n) k d ≡ k
number_at n k d below = let at = get_or-range_with_len 0 n k d below in omega (arith, at)

-- one is enough
pub some_below : (p : ℕ → Bool) (n k : ℕ) → k < n → p k ≡ true → list_any p (range_with_len 0 n) ≡ true
some_below p n k below passes =
    list_any_at p (range_with_len 0 n) k 0 (subst (λ m. k < m) (sym (length-range_with_len 0 n)) below)
    (ap p (number_at n k 0 below) ∙ passes)

-- and there is one
pub which_below : (p : ℕ → Bool) (n : ℕ) → list_any p (range_with_len 0 n) ≡ true → (k : ℕ) × (k < n) × (p k ≡ true)
which_below p n any =
    let found = Any-from_list_any p (range_with_len 0 n) any in
    let below : found.0 < n = subst (λ m. found.0 < m) (length-range_with_len 0 n) found.2 in
    let same : found.1 ≡ found.0 = sym found.3 ∙ number_at n found.0 found.1 below in
    (found.0, below, ap p (sym same) ∙ found.4)

-- ---- two tests ----

shuffled : (a b c d : Bool) → ((a || c) || (b || d)) ≡ ((a || b) || (c || d))
shuffled true b c d = refl
shuffled false true true d = refl
shuffled false true false d = refl
shuffled false false true d = refl
shuffled false false false d = refl

-- one passes the first, or one the second
pub either_test : {X : Type 0} (p q : X → Bool) (xs : List X) →
    (list_any p xs || list_any q xs) ≡ list_any (λ x. p x || q x) xs
either_test p q [] = refl
either_test p q (x ∷ xs) = shuffled (p x) (q x) (list_any p xs) (list_any q xs) ∙ ap (λ b. (p x || q x) || b) (either_test p q xs)

pub no_test : {X : Type 0} (xs : List X) → false ≡ list_any (λ x. false) xs
no_test [] = refl
no_test (x ∷ xs) = no_test xs
