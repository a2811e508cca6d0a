-- When a fault has acted, as the code finds it: by the onset, and of a lapse by the numbers of its list.
use Rattle.std.proofs.Common.{◌≡◌, ◌≢◌, ◌∙◌, ℕ, ◌+◌, ◌-◌, ◌%◌, ◌==◌, ◌≤◌, ◌<◌, Bool, true, false, ◌&&◌, ◌||◌, List, [], ◌∷◌, refl, sym, ap, ap₂, arith}
use Rattle.std.specs.Prelude.{nat_lt, if◌then◌else◌}
use Rattle.std.specs.List.{list_any, range_with_len}
use Rattle.std.specs.Cmp.{both_ways}
use Rattle.std.proofs.Math.Nat.{mod-eq_of_lt, mod-le, mod-lt}
use Rattle.std.proofs.lemmas.Bool.{and_parts, and_from, leb-true, le-leb, ltb-true, lt-ltb, eqb-true, eq-eqb, ne_eqb, true≢false}
use Rattle.std.proofs.lemmas.Bool.Decides.{nat_tests}
use Rattle.eg_fault.specs.declared.class.Class.{Class}
use Rattle.eg_fault.specs.declared.class.Class.TheVariants.{Lapse}
use Rattle.eg_fault.specs.declared.class.Fault.{Fault}
use Rattle.eg_fault.specs.Faults.{has_effect, is_lapse, is_left_out}
use Rattle.eg_table.specs.Acting.{acts_at, acts_within}
use Rattle.eg_table.proofs.CountLemmas.{some_below, which_below, either_test, no_test}

-- ---- lapses ----

-- the number of the list at which level 2 is left out, k ticks after the onset
place : (every k : ℕ) → ℕ
place every k = if every == 0 then k else k % every

-- a number that comes at all comes first at that tick
comes_first : (every tick : ℕ) → ((every == 0) || nat_lt tick every) ≡ true → place every tick ≡ tick
unfolding place
comes_first every tick comes = go (every == 0) refl comes
  where
    go : (b : Bool) → (every == 0) ≡ b → (b || nat_lt tick every) ≡ true → (if b then tick else tick % every) ≡ tick
    go true is comes = refl
    go false is comes = mod-eq_of_lt (ltb-true tick every comes)

-- and not before
comes_late : (every tick k : ℕ) → tick ≡ place every k → tick ≤ k
unfolding place
comes_late every tick k at = go (every == 0) at
  where
    go : (b : Bool) → tick ≡ (if b then k else k % every) → tick ≤ k
    go true at = omega (arith, at)
    go false at = let most = mod-le k every in omega (arith, at, most)

-- none comes that isn't below `every`
comes_within_every : (every tick k : ℕ) → tick ≡ place every k → ((every == 0) || nat_lt tick every) ≡ true
unfolding place
comes_within_every every tick k at = go (every == 0) refl at
  where
    go : (b : Bool) → (every == 0) ≡ b → tick ≡ (if b then k else k % every) → (b || nat_lt tick every) ≡ true
    go true is at = refl
    go false is at =
        let some : 0 < every = grind arith in
        let below = mod-lt k some in
        lt-ltb tick every (omega (arith, at, below))

-- a number by itself leaves level 2 out at one of the first n ticks
abbrev comes : (every n : ℕ) → ℕ → Bool
comes every n tick = list_any (is_left_out (tick ∷ []) every) (range_with_len 0 n)

or_no : (b : Bool) → (b || false) ≡ b
or_no true = refl
or_no false = refl

comes-is : (every n tick : ℕ) → (nat_lt tick n && ((every == 0) || nat_lt tick every)) ≡ comes every n tick
unfolding is_left_out place
comes-is every n tick = both_ways _ _ there back
  where
    there : (nat_lt tick n && ((every == 0) || nat_lt tick every)) ≡ true →
        list_any (is_left_out (tick ∷ []) every) (range_with_len 0 n) ≡ true
    there both =
        let parts = and_parts _ _ both in
        some_below (is_left_out (tick ∷ []) every) n tick (ltb-true tick n parts.0)
        (or_no (tick == place every tick) ∙ eq-eqb tick (place every tick) (sym (comes_first every tick parts.1)))

    back : list_any (is_left_out (tick ∷ []) every) (range_with_len 0 n) ≡ true →
        (nat_lt tick n && ((every == 0) || nat_lt tick every)) ≡ true
    back some =
        let found = which_below (is_left_out (tick ∷ []) every) n some in
        let at : tick ≡ place every found.0 = eqb-true tick (place every found.0) (sym (or_no (tick == place every found.0)) ∙ found.2) in
        let late = comes_late every tick found.0 at in
        let below = found.1 in
        and_from _ _ (lt-ltb tick n (omega (arith, late, below))) (comes_within_every every tick found.0 at)

-- as the code asks: where the number is below the ticks, with an `every` of 0 and with another, and where it isn't
pub comes_once : (every n tick : ℕ) → tick < n → every ≡ 0 → (every == 0) ≡ comes every n tick
comes_once every n tick below once =
    eq-eqb every 0 once ∙ sym (ap₂ (λ a b. a && (b || nat_lt tick every)) (lt-ltb tick n below) (eq-eqb every 0 once)) ∙ comes-is every n tick

pub comes_again : (every n tick : ℕ) → tick < n → every ≢ 0 → nat_lt tick every ≡ comes every n tick
comes_again every n tick below again =
    sym (ap₂ (λ a b. a && (b || nat_lt tick every)) (lt-ltb tick n below) (ne_eqb every 0 again)) ∙ comes-is every n tick

pub comes_never : (every n tick : ℕ) → n ≤ tick → nat_lt tick n ≡ comes every n tick
comes_never every n tick late =
    let never : nat_lt tick n ≡ false = grind (arith, nat_tests) in
    never ∙ sym (ap (λ b. b && ((every == 0) || nat_lt tick every)) never) ∙ comes-is every n tick

-- level 2 is left out at some tick exactly if a number of the list does so
pub left_out-is : (every n : ℕ) (after : List ℕ) →
    list_any (λ tick. list_any (is_left_out (tick ∷ []) every) (range_with_len 0 n)) after
    ≡ list_any (is_left_out after every) (range_with_len 0 n)
unfolding is_left_out
left_out-is every n [] = no_test (range_with_len 0 n)
left_out-is every n (tick ∷ after) =
    ap₂ (λ a b. a || b) (ap (λ p. list_any p (range_with_len 0 n)) (λ i k. or_no (tick == (if every == 0 then k else k % every)) i)) (left_out-is every n after)
    ∙ either_test (λ k. tick == (if every == 0 then k else k % every)) (is_left_out after every) (range_with_len 0 n)

-- ---- all classes ----

-- a class that isn't a lapse has an effect at the onset
first_effect : (class : Class) → is_lapse class ≡ false → has_effect class 0 ≡ true
unfolding has_effect is_lapse
first_effect (Lapse after every) no_lapse = absurd (true≢false no_lapse)
first_effect _ no_lapse = refl

-- a class that isn't a lapse of any numbers
pub other_class : (class : Class) → ((after : List ℕ) (every : ℕ) → ¬ (class ≡ Lapse after every)) → is_lapse class ≡ false
unfolding is_lapse
other_class (Lapse after every) none = absurd (none after every refl)
other_class _ none = refl

pub acts_first : (class : Class) (n : ℕ) → 1 ≤ n → is_lapse class ≡ false → list_any (has_effect class) (range_with_len 0 n) ≡ true
acts_first class n some no_lapse = some_below (has_effect class) n 0 (omega (arith, some)) (first_effect class no_lapse)

-- ---- from the onset on ----

-- one of the ticks from the onset on
pub acts_within-is : (fault : Fault) (n : ℕ) →
    (nat_lt fault.onset n && list_any (has_effect fault.class) (range_with_len 0 (n - fault.onset))) ≡ acts_within fault n
unfolding acts_within acts_at
acts_within-is fault n = both_ways _ _ there back
  where
    there : (nat_lt fault.onset n && list_any (has_effect fault.class) (range_with_len 0 (n - fault.onset))) ≡ true →
        list_any (acts_at fault) (range_with_len 0 n) ≡ true
    there both =
        let parts = and_parts _ _ both in
        let begun = ltb-true fault.onset n parts.0 in
        let found = which_below (has_effect fault.class) (n - fault.onset) parts.1 in
        let below = found.1 in
        let k : fault.onset + found.0 - fault.onset ≡ found.0 = omega arith in
        some_below (acts_at fault) n (fault.onset + found.0) (omega (arith, begun, below))
        (and_from _ _ (le-leb fault.onset (fault.onset + found.0) (omega arith)) (ap (has_effect fault.class) k ∙ found.2))

    back : list_any (acts_at fault) (range_with_len 0 n) ≡ true →
        (nat_lt fault.onset n && list_any (has_effect fault.class) (range_with_len 0 (n - fault.onset))) ≡ true
    back some =
        let found = which_below (acts_at fault) n some in
        let parts = and_parts _ _ found.2 in
        let begun = leb-true fault.onset found.0 parts.0 in
        let below = found.1 in
        and_from _ _ (lt-ltb fault.onset n (omega (arith, begun, below)))
        (some_below (has_effect fault.class) (n - fault.onset) (found.0 - fault.onset) (omega (arith, begun, below)) parts.1)

-- as the code asks: where the onset comes within these ticks, and where it comes later
pub acts_begun : (fault : Fault) (n : ℕ) → fault.onset < n →
    list_any (has_effect fault.class) (range_with_len 0 (n - fault.onset)) ≡ acts_within fault n
acts_begun fault n begun =
    sym (ap (λ b. b && list_any (has_effect fault.class) (range_with_len 0 (n - fault.onset))) (lt-ltb fault.onset n begun))
    ∙ acts_within-is fault n

pub acts_late : (fault : Fault) (n : ℕ) → n ≤ fault.onset → nat_lt fault.onset n ≡ acts_within fault n
acts_late fault n late =
    let never : nat_lt fault.onset n ≡ false = grind (arith, nat_tests) in
    never ∙ sym (ap (λ b. b && list_any (has_effect fault.class) (range_with_len 0 (n - fault.onset))) never) ∙ acts_within-is fault n
