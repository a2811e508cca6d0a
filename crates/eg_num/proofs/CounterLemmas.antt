-- The counter: one number keeps what all windows say.
use Rattle.std.proofs.Common.{◌≡◌, ℕ, inl, inr, ◌+◌, ◌-◌, ◌*◌, ◌≤◌, ◌<◌, Bool, true, false, not, ◌||◌, ◌&&◌, List, [], ◌∷◌, map, refl, sym, ap, ap₂, ◌∙◌, arith, nat_le, nat_lt, min, max}
use Rattle.std.specs.Prelude.{◌==◌, if◌then◌else◌}
use Rattle.std.specs.List.{list_any, count_by}
use Rattle.std.proofs.lemmas.List.Sums.{sum_by-cons}
use Rattle.std.proofs.lemmas.Bool.{cases_Bool, eq-eqb, ne_eqb, leb-false, lt-leb, true≢false}
use Rattle.std.proofs.lemmas.Bool.Decides.{nat_tests}
use Rattle.eg_num.specs.Windows.{WeightParts, weight, windows, is_reached, is_confirmed, is_first, greatest_of, greatest}
use Rattle.eg_num.proofs.FirstIndexLemmas.{is_confirmed-cons, is_first-cons}
use Rattle.eg_num.specs.Counting.{fed, fed_all, counted, StandsFor, CounterLaw}

-- a window that goes on by a bad feed weighs `up` more, but where it was below 0
weight-bad : (w : WeightParts) (us : List Bool) → max w.up (weight w (true ∷ us)) ≡ w.up + weight w us
unfolding weight
weight-bad w us = simp sum_by-cons (law w.up w.down (count_by (λ bad. bad) us) (count_by not us))
  where
    law : (up down bad good : ℕ) → max up (up * (1 + bad) - down * (0 + good)) ≡ up + (up * bad - down * good)
    law up down bad good = omega arith

-- a window that goes on by a good feed weighs `down` less
weight-good : (w : WeightParts) (us : List Bool) → weight w (false ∷ us) ≡ weight w us - w.down
unfolding weight
weight-good w us = simp sum_by-cons (law w.up w.down (count_by (λ bad. bad) us) (count_by not us))
  where
    law : (up down bad good : ℕ) → up * (0 + bad) - down * (1 + good) ≡ (up * bad - down * good) - down
    law up down bad good = omega arith

-- the windows of one feed
weight-one_bad : (w : WeightParts) → weight w (true ∷ []) ≡ w.up
unfolding weight
weight-one_bad w = law w.up w.down
  where
    law : (up down : ℕ) → up * 1 - down * 0 ≡ up
    law up down = omega arith

weight-one_good : (w : WeightParts) → weight w (false ∷ []) ≡ 0
unfolding weight
weight-one_good w = law w.up w.down
  where
    law : (up down : ℕ) → up * 0 - down * 1 ≡ 0
    law up down = omega arith

-- the same of the greatest among windows
greatest_of-bad : (w : WeightParts) (uss : List (List Bool)) → max w.up (greatest_of (map (weight w) (map (λ us. true ∷ us) uss))) ≡ w.up + greatest_of (map (weight w) uss)
unfolding greatest_of
greatest_of-bad w [] = omega arith
greatest_of-bad w (us ∷ uss) =
    let here = weight-bad w us in
    let rest = greatest_of-bad w uss in
    omega arith

greatest_of-good : (w : WeightParts) (uss : List (List Bool)) → greatest_of (map (weight w) (map (λ us. false ∷ us) uss)) ≡ greatest_of (map (weight w) uss) - w.down
unfolding greatest_of
greatest_of-good w [] = omega arith
greatest_of-good w (us ∷ uss) =
    let here = weight-good w us in
    let rest = greatest_of-good w uss in
    omega arith

-- before the first feed the greatest weight is 0
pub greatest-nil : (w : WeightParts) → greatest w [] ≡ 0
unfolding greatest windows greatest_of
greatest-nil w = refl

-- a bad feed adds `up` to the greatest weight
pub greatest-bad : (w : WeightParts) (bits : List Bool) → greatest w (true ∷ bits) ≡ greatest w bits + w.up
unfolding greatest windows greatest_of
greatest-bad w bits =
    let one = weight-one_bad w in
    let rest = greatest_of-bad w (windows bits) in
    omega arith

-- a good feed takes `down` from it
pub greatest-good : (w : WeightParts) (bits : List Bool) → greatest w (false ∷ bits) ≡ greatest w bits - w.down
unfolding greatest windows greatest_of
greatest-good w bits =
    let one = weight-one_good w in
    let rest = greatest_of-good w (windows bits) in
    omega arith

-- some window weighs at least n exactly if the greatest weight does
some_weighs : (w : WeightParts) (n : ℕ) (uss : List (List Bool)) → 1 ≤ n → list_any (λ us. nat_le n (weight w us)) uss ≡ nat_le n (greatest_of (map (weight w) uss))
unfolding greatest_of
some_weighs w n [] positive = sym (lt-leb _ _ positive)
some_weighs w n (us ∷ uss) positive =
    ap (λ some. nat_le n (weight w us) || some) (some_weighs w n uss positive) ∙ sym (either n (weight w us) (greatest_of (map (weight w) uss)))
  where
    either : (n x y : ℕ) → nat_le n (max x y) ≡ (nat_le n x || nat_le n y)
    either n x y = grind (arith, nat_tests)

pub list_any-windows : (w : WeightParts) (n : ℕ) (bits : List Bool) → 1 ≤ n → list_any (λ us. nat_le n (weight w us)) (windows bits) ≡ nat_le n (greatest w bits)
unfolding greatest
list_any-windows w n bits positive = some_weighs w n (windows bits) positive

-- a list is reached exactly if its greatest weight is at least the limit
pub is_reached-greatest : (w : WeightParts) (bits : List Bool) → 1 ≤ w.limit → is_reached w bits ≡ nat_le w.limit (greatest w bits)
unfolding is_reached
is_reached-greatest w bits positive = list_any-windows w w.limit bits positive

-- until a list is confirmed its greatest weight is below the limit
pub greatest_below : (w : WeightParts) (bits : List Bool) → 1 ≤ w.limit → is_confirmed w bits ≡ false → greatest w bits < w.limit
unfolding is_confirmed
greatest_below w [] positive unconfirmed = let none = greatest-nil w in omega arith
greatest_below w (b ∷ bits) positive unconfirmed =
    leb-false _ _ (sym (is_reached-greatest w (b ∷ bits) positive) ∙ left _ _ unconfirmed)
  where
    left : (x y : Bool) → (x || y) ≡ false → x ≡ false
    left true y e = e
    left false y e = refl

-- where a list is confirmed the number is the limit
pub counted-confirmed : (w : WeightParts) (bits : List Bool) → is_confirmed w bits ≡ true → counted w bits ≡ w.limit
unfolding counted
counted-confirmed w bits confirmed = ap (λ c. if c then w.limit else greatest w bits) confirmed

-- until then it is the greatest weight
pub counted-unconfirmed : (w : WeightParts) (bits : List Bool) → is_confirmed w bits ≡ false → counted w bits ≡ greatest w bits
unfolding counted
counted-unconfirmed w bits unconfirmed = ap (λ c. if c then w.limit else greatest w bits) unconfirmed

-- and below the limit
pub counted_below : (w : WeightParts) (bits : List Bool) → 1 ≤ w.limit → is_confirmed w bits ≡ false → counted w bits < w.limit
counted_below w bits positive unconfirmed =
    let same = counted-unconfirmed w bits unconfirmed in
    let low = greatest_below w bits positive unconfirmed in
    omega arith

-- before the first feed the number is 0
pub counted-nil : (w : WeightParts) → counted w [] ≡ 0
unfolding counted is_confirmed
counted-nil w = greatest-nil w

-- the number is never above the limit
pub counted_within : (w : WeightParts) (bits : List Bool) → 1 ≤ w.limit → counted w bits ≤ w.limit
counted_within w bits positive = elim (cases_Bool (is_confirmed w bits)) [
  | inl confirmed ↦ (let same = counted-confirmed w bits confirmed in omega arith)
  | inr unconfirmed ↦ (let low = counted_below w bits positive unconfirmed in omega arith)
]

-- the number is the limit exactly if the list is confirmed
pub counted-is_limit : (w : WeightParts) (bits : List Bool) → 1 ≤ w.limit → (counted w bits == w.limit) ≡ is_confirmed w bits
counted-is_limit w bits positive = elim (cases_Bool (is_confirmed w bits)) [
  | inl confirmed ↦ eq-eqb _ _ (counted-confirmed w bits confirmed) ∙ sym confirmed
  | inr unconfirmed ↦ (let low = counted_below w bits positive unconfirmed in ne_eqb _ _ (omega arith) ∙ sym unconfirmed)
]

-- one feed at the limit, and below it
fed-limit : (w : WeightParts) (n : ℕ) (b : Bool) → n ≡ w.limit → fed w n b ≡ w.limit
unfolding fed
fed-limit w n b same = ap (λ full. if full then w.limit else if b then min w.limit (n + w.up) else n - w.down) (eq-eqb n w.limit same)

fed-bad : (w : WeightParts) (n : ℕ) → n < w.limit → fed w n true ≡ min w.limit (n + w.up)
unfolding fed
fed-bad w n low = ap (λ full. if full then w.limit else min w.limit (n + w.up)) (ne_eqb n w.limit (omega arith))

fed-good : (w : WeightParts) (n : ℕ) → n < w.limit → fed w n false ≡ n - w.down
unfolding fed
fed-good w n low = ap (λ full. if full then w.limit else n - w.down) (ne_eqb n w.limit (omega arith))

-- a list that wasn't confirmed before is confirmed now exactly if its greatest weight is at least the limit
is_confirmed-greatest : (w : WeightParts) (b : Bool) (bits : List Bool) → 1 ≤ w.limit → is_confirmed w bits ≡ false →
    is_confirmed w (b ∷ bits) ≡ nat_le w.limit (greatest w (b ∷ bits))
unfolding is_confirmed
is_confirmed-greatest w b bits positive unconfirmed = now _ _ unconfirmed ∙ is_reached-greatest w (b ∷ bits) positive
  where
    now : (reached before : Bool) → before ≡ false → (reached || before) ≡ reached
    now reached true e = absurd (true≢false e)
    now true false e = refl
    now false false e = refl

-- so the number is that weight, cut at the limit
counted-greatest : (w : WeightParts) (b : Bool) (bits : List Bool) → 1 ≤ w.limit → is_confirmed w bits ≡ false → counted w (b ∷ bits) ≡ min w.limit (greatest w (b ∷ bits))
unfolding counted
counted-greatest w b bits positive unconfirmed =
    ap (λ c. if c then w.limit else greatest w (b ∷ bits)) (is_confirmed-greatest w b bits positive unconfirmed) ∙ cut w.limit (greatest w (b ∷ bits))
  where
    cut : (l n : ℕ) → (if nat_le l n then l else n) ≡ min l n
    cut l n = grind (arith, nat_tests)

-- one feed below the limit gives the greatest weight with that feed, cut at the limit
fed-greatest : (w : WeightParts) (b : Bool) (bits : List Bool) → greatest w bits < w.limit → fed w (greatest w bits) b ≡ min w.limit (greatest w (b ∷ bits))
fed-greatest w true bits low = fed-bad w (greatest w bits) low ∙ ap (min w.limit) (sym (greatest-bad w bits))
fed-greatest w false bits low = let same = greatest-good w bits in let fed_is = fed-good w (greatest w bits) low in omega arith

-- one more feed: the number that stands for the longer list is one feed of the number that stands for the list
pub counted-cons : (w : WeightParts) (b : Bool) (bits : List Bool) → 1 ≤ w.limit → counted w (b ∷ bits) ≡ fed w (counted w bits) b
counted-cons w b bits positive = elim (cases_Bool (is_confirmed w bits)) [
  | inl confirmed ↦ counted-confirmed w (b ∷ bits) (is_confirmed-cons w b bits confirmed) ∙ sym (fed-limit w (counted w bits) b (counted-confirmed w bits confirmed))
  | inr unconfirmed ↦
      counted-greatest w b bits positive unconfirmed
      ∙ sym (fed-greatest w b bits (greatest_below w bits positive unconfirmed))
      ∙ ap (λ n. fed w n b) (sym (counted-unconfirmed w bits unconfirmed))
]

-- a number that stands for a list stands for the longer list after one feed
pub StandsFor-cons : (w : WeightParts) (value : ℕ) (b : Bool) (bits : List Bool) → 1 ≤ w.limit → StandsFor w value bits → StandsFor w (fed w value b) (b ∷ bits)
StandsFor-cons w value b bits positive stands = ap (λ n. fed w n b) stands ∙ sym (counted-cons w b bits positive)

-- a number that stands for a list is the limit exactly if the list is confirmed
pub StandsFor-confirmed : (w : WeightParts) (value : ℕ) (bits : List Bool) → 1 ≤ w.limit → StandsFor w value bits → (value == w.limit) ≡ is_confirmed w bits
StandsFor-confirmed w value bits positive stands = ap (λ n. n == w.limit) stands ∙ counted-is_limit w bits positive

-- the last feed is the first at which it is reached exactly if the number comes to the limit with it
pub is_first-counted : (w : WeightParts) (b : Bool) (bits : List Bool) → 1 ≤ w.limit →
    is_first w (b ∷ bits) ≡ (nat_lt (counted w bits) w.limit && (counted w (b ∷ bits) == w.limit))
is_first-counted w b bits positive = is_first-cons w b bits ∙ comes (is_confirmed w (b ∷ bits)) (is_confirmed w bits) (counted w bits) (counted w (b ∷ bits)) w.limit
    (counted_within w bits positive) (counted-is_limit w bits positive) (counted-is_limit w (b ∷ bits) positive)
  where
    comes : (now before : Bool) (n n' l : ℕ) → n ≤ l → (n == l) ≡ before → (n' == l) ≡ now → (now && not before) ≡ (nat_lt n l && (n' == l))
    comes now before n n' l within is_before is_now = grind (arith, nat_tests)

-- a number that stands for the list comes to the limit exactly if the last feed is the first at which it is reached
pub StandsFor-first : (w : WeightParts) (value : ℕ) (b : Bool) (bits : List Bool) → 1 ≤ w.limit → StandsFor w value bits →
    is_first w (b ∷ bits) ≡ (nat_lt value w.limit && (fed w value b == w.limit))
StandsFor-first w value b bits positive stands =
    is_first-counted w b bits positive ∙ ap₂ (λ before now. nat_lt before w.limit && (now == w.limit)) (sym stands) (sym (StandsFor-cons w value b bits positive stands))

-- fed any list from 0, the number stands for that list
pub fed_all-counted : (w : WeightParts) (bits : List Bool) → 1 ≤ w.limit → fed_all w bits ≡ counted w bits
unfolding fed_all
fed_all-counted w [] positive = sym (counted-nil w)
fed_all-counted w (b ∷ bits) positive = StandsFor-cons w (fed_all w bits) b bits positive (fed_all-counted w bits positive)

pub counter_law : CounterLaw
counter_law w weights bits = fed_all-counted w bits weights.3
