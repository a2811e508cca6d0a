-- Verdicts of which few are right confirm: what they weigh.
use Rattle.std.proofs.Common.{◌≡◌, ℕ, zero, suc, ◌+◌, ◌-◌, ◌*◌, ◌≤◌, ◌<◌, Bool, true, false, not, List, [], ◌∷◌, length, take, refl, subst, arith}
use Rattle.std.specs.Prelude.{if◌then◌else◌}
use Rattle.std.specs.List.{list_all, count_by}
use Rattle.std.proofs.lemmas.List.{length-take-le}
use Rattle.std.proofs.Math.Nat.{lt-div-mul-add}
use Rattle.std.proofs.lemmas.Bool.{and_from, and_parts}
use Rattle.eg_num.specs.Arithmetic.{quotient_up}
use Rattle.eg_num.specs.Windows.{WeightParts, is_confirmed, weight, greatest}
use Rattle.eg_num.proofs.CounterLemmas.{greatest-bad, greatest-good}
use Rattle.eg_model.proofs.Silence.{reached_confirms}
use Rattle.eg_model.proofs.LapseRuns.{count-cons}

-- ---- fewer of the newest ----

pub all_of_fewer : {X : Type 0} (p : X → Bool) (n more : ℕ) (xs : List X) → n ≤ more →
    list_all p (take more xs) ≡ true → list_all p (take n xs) ≡ true
all_of_fewer p zero more xs l h = refl
all_of_fewer p (suc n) more [] l h = refl
all_of_fewer p (suc n) zero (x ∷ xs) l h = absurd (omega arith)
all_of_fewer p (suc n) (suc more) (x ∷ xs) l h =
    and_from _ _ (and_parts _ _ h).0 (all_of_fewer p n more xs (omega arith) (and_parts _ _ h).1)

pub count_of_fewer : {X : Type 0} (p : X → Bool) (n more : ℕ) (xs : List X) → n ≤ more →
    count_by p (take n xs) ≤ count_by p (take more xs)
count_of_fewer p zero more xs l = omega arith
count_of_fewer p (suc n) more [] l = omega arith
count_of_fewer p (suc n) zero (x ∷ xs) l = absurd (omega arith)
count_of_fewer p (suc n) (suc more) (x ∷ xs) l =
    rw (count-cons p x (take n xs), count-cons p x (take more xs))
    (go (p x) _ _ (count_of_fewer p n more xs (omega arith)))
  where
    go : (b : Bool) (k k' : ℕ) → k ≤ k' → (if b then suc k else k) ≤ (if b then suc k' else k')
    go b k k' l = grind arith

-- a feed is bad or good
pub count-both : (us : List Bool) → count_by (λ b. b) us + count_by not us ≡ length us
count-both [] = refl
count-both (b ∷ us) = rw (count-cons (λ c. c) b us, count-cons not b us) (go b _ _ _ (count-both us))
  where
    go : (b : Bool) (t f n : ℕ) → t + f ≡ n →
        (if b then suc t else t) + (if not b then suc f else f) ≡ suc n
    go b t f n e = grind arith

-- ---- what the newest feeds weigh ----

-- a window of the newest feeds weighs no more than the greatest
pub weight_below : (w : WeightParts) (n : ℕ) (bits : List Bool) → weight w (take n bits) ≤ greatest w bits
unfolding weight
weight_below w zero bits = omega arith
weight_below w (suc n) [] = omega arith
weight_below w (suc n) (true ∷ bits) =
    rw (greatest-bad w bits, count-cons (λ b. b) true (take n bits), count-cons not true (take n bits))
    (more w.up w.down (count_by (λ b. b) (take n bits)) (count_by not (take n bits)) (greatest w bits)
    (weight_below w n bits))
  where
    more : (up down bad good rest : ℕ) → up * bad - down * good ≤ rest →
        up * suc bad - down * good ≤ rest + up
    more up down bad good rest h = omega arith
weight_below w (suc n) (false ∷ bits) =
    rw (greatest-good w bits, count-cons (λ b. b) false (take n bits), count-cons not false (take n bits))
    (less w.up w.down (count_by (λ b. b) (take n bits)) (count_by not (take n bits)) (greatest w bits)
    (weight_below w n bits))
  where
    less : (up down bad good rest : ℕ) → up * bad - down * good ≤ rest →
        up * bad - down * suc good ≤ rest - down
    less up down bad good rest h = omega arith

-- a number is at most its quotient, rounded up, times the divisor
pub rounded_up : (n d : ℕ) → 0 < d → n ≤ quotient_up n d * d
rounded_up n d h = let f = lt-div-mul-add {a = n + (d - 1)} h in omega arith

-- rounds of verdicts, suc b of them, of which fewer than a round are right, weigh at least the limit
rounds_weigh : (up down limit b c right : ℕ) → right ≤ c → c * down < up → limit ≤ suc b * (up - c * down) →
    limit ≤ up * (suc b * suc c - right) - down * right
rounds_weigh up down limit b c right few worth enough = let m = most in let d = less in omega arith
  where
    total : (up d w limit b : ℕ) → w + d ≡ up → limit ≤ suc b * w → limit + d ≤ suc b * up
    total up d w limit b e l = grind arith

    room : (b c f : ℕ) → f ≤ c → suc b ≤ suc b * suc c - f
    room b c f l = grind arith

    times : (up x y : ℕ) → x ≤ y → x * up ≤ up * y
    times up x y l = grind arith

    most : suc b * up ≤ up * (suc b * suc c - right)
    most = times up (suc b) (suc b * suc c - right) (room b c right few)

    less : limit + down * right ≤ suc b * up
    less = let t = total up (c * down) (up - c * down) limit b (omega arith) enough in let k =
        times down right c few in omega arith

heavy : (up down limit rounds periods right : ℕ) → 0 < limit → right < periods → (periods - 1) * down < up →
    limit ≤ rounds * (up - (periods - 1) * down) → limit ≤ up * (rounds * periods - right) - down * right
heavy up down limit zero periods right some few worth enough = absurd (omega arith)
heavy up down limit (suc b) zero right some few worth enough = absurd (omega arith)
heavy up down limit (suc b) (suc c) right some few worth enough =
    rounds_weigh up down limit b c right (omega arith) (subst (λ n. n * down < up) less worth)
    (subst (λ n. limit ≤ suc b * (up - n * down)) less enough)
  where
    less : suc c - 1 ≡ c
    less = omega arith

-- so they confirm
pub confirms_few : (w : WeightParts) (rounds periods : ℕ) (bits : List Bool) → 0 < w.limit →
    rounds * periods ≤ length bits →
    (periods - 1) * w.down < w.up → w.limit ≤ rounds * (w.up - (periods - 1) * w.down) →
    count_by not (take (rounds * periods) bits) < periods → is_confirmed w bits ≡ true
confirms_few w rounds periods bits some many worth enough few =
    reached_confirms w bits some (omega (arith, weight_below w (rounds * periods) bits, weighs))
  where
    newest : List Bool
    newest = take (rounds * periods) bits

    bad : count_by (λ b. b) newest ≡ rounds * periods - count_by not newest
    bad = let both = count-both newest in let size = length-take-le (rounds * periods) bits many in
        omega arith

    weighs : w.limit ≤ weight w newest
    weighs = unfold weight in rw bad
        (heavy w.up w.down w.limit rounds periods (count_by not newest) some few worth enough)
