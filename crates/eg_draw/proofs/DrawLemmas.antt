-- Draws, one by one.
use Rattle.std.proofs.Common.{◌≡◌, refl, ap, ℕ, zero, suc, ◌+◌, ◌%◌, ◌==◌, false, [], ◌∷◌, ◌++◌, add-one, arith}
use Rattle.std.proofs.lemmas.Bool.Decides.{nat_tests}
use Rattle.eg_draw.specs.Draws.{next, draw, after, draws}
use Rattle.eg_draw.specs.Runs.{four_values, class_draws, fault_draws}

-- ---- n draws are n single ones ----

pub after_none : (x : ℕ) → after 0 x ≡ x
unfolding after
after_none x = refl

pub after_one : (x : ℕ) → after 1 x ≡ next x
unfolding after
after_one x = refl

pub after_two : (x : ℕ) → after 2 x ≡ next (next x)
unfolding after
after_two x = refl

pub after_three : (x : ℕ) → after 3 x ≡ next (next (next x))
unfolding after
after_three x = refl

pub after_five : (x : ℕ) → after 5 x ≡ next (next (next (next (next x))))
unfolding after
after_five x = refl

pub draws_none : (x : ℕ) → draws 0 x ≡ []
unfolding draws
draws_none x = refl

pub draws_two : (x : ℕ) → draws 2 x ≡ draw x ∷ draw (next x) ∷ []
unfolding draws
draws_two x = refl

pub values_four : (x : ℕ) → four_values x
    ≡ draw x % 1001 ∷ draw (next x) % 1001 ∷ draw (next (next x)) % 1001 ∷ draw (next (next (next x))) % 1001 ∷ []
unfolding four_values draws
values_four x = refl

pub ruleset single = (after_none, after_one, after_two, after_three, after_five, draws_two, values_four)

-- ---- one more draw ----

after-suc : (n x : ℕ) → after (suc n) x ≡ next (after n x)
unfolding after
after-suc zero x = refl
after-suc (suc n) x = after-suc n (next x)

pub after_more : (n x : ℕ) → after (n + 1) x ≡ next (after n x)
after_more n x = rw add-one (after-suc n x)

draws-suc : (n x : ℕ) → draws (suc n) x ≡ draws n x ++ draw (after n x) ∷ []
unfolding draws after
draws-suc zero x = refl
draws-suc (suc n) x = ap (λ all. draw x ∷ all) (draws-suc n (next x))

pub draws_more : (n x : ℕ) → draws (n + 1) x ≡ draws n x ++ draw (after n x) ∷ []
draws_more n x = rw add-one (draws-suc n x)

pub ruleset steps = (after_none, draws_none, after_more, draws_more)

-- ---- the draws of a fault ----

pub no_fault : (class x : ℕ) → class ≡ 14 → after (fault_draws class) x ≡ x
unfolding fault_draws
no_fault class x is = rw is (after_none x)

after-first : (n x : ℕ) → after (1 + n) x ≡ after n (next x)
unfolding after
after-first n x = let e : 1 + n ≡ suc n = omega arith in rw e refl

pub some_fault : (class x : ℕ) → (class ≡ 14 → ⊥) → after (fault_draws class) x ≡ after (class_draws class) (next x)
unfolding fault_draws
some_fault class x isnt = let e : (class == 14) ≡ false = grind (arith, nat_tests) in rw e (after-first (class_draws class) x)

pub ruleset faults = (no_fault, some_fault)
