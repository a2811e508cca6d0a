-- Windows: a list of feeds that is below another bit by bit weighs no more, so it is reached and confirmed no sooner.
use Rattle.std.proofs.Common.{◌≡◌, ℕ, ◌+◌, ◌-◌, ◌*◌, ◌≤◌, Bool, true, false, not, ◌||◌, cond, List, [], ◌∷◌, map, refl, ap, arith, nat_le, inl, inr}
use Rattle.std.specs.List.{list_any, count_by}
use Rattle.std.proofs.lemmas.List.Sums.{sum_by-cons}
use Rattle.std.proofs.lemmas.Bool.{or_cases, leb-true, le-leb, or_left, or_right, false≢true}
use Rattle.eg_num.specs.Windows.{WeightParts, weight, windows, is_reached, is_confirmed}

-- some element of a mapped list passes where some element's image passes
pub list_any-map : {X Y : Type 0} (passes : X → Bool) (image : Y → X) → (ys : List Y) → list_any passes (map image ys) ≡ list_any (λ y. passes (image y)) ys
list_any-map passes image [] = refl
list_any-map passes image (y ∷ ys) = ap (λ some. passes (image y) || some) (list_any-map passes image ys)

-- the second list is as long, and each feed that is bad in the first is bad in the second
pub data Below : List Bool → List Bool → Type 0 where
  below_none : Below [] []
  below_more : {b c : Bool} {bs cs : List Bool} → (b ≡ true → c ≡ true) → Below bs cs → Below (b ∷ bs) (c ∷ cs)

-- the higher list has no fewer bad feeds
pub bad-Below : {bs cs : List Bool} → Below bs cs → count_by (λ bad. bad) bs ≤ count_by (λ bad. bad) cs
bad-Below below_none = omega arith
bad-Below (below_more {b = b} {c = c} {bs = bs} {cs = cs} follows rest) = simp sum_by-cons (step b c follows (bad-Below rest))
  where
    step : (b c : Bool) → (b ≡ true → c ≡ true) → count_by (λ bad. bad) bs ≤ count_by (λ bad. bad) cs →
        cond b 1 0 + count_by (λ bad. bad) bs ≤ cond c 1 0 + count_by (λ bad. bad) cs
    step true true f h = omega arith
    step true false f h = absurd (false≢true (f refl))
    step false true f h = omega arith
    step false false f h = omega arith

-- the higher list has no more good feeds
pub good-Below : {bs cs : List Bool} → Below bs cs → count_by not cs ≤ count_by not bs
good-Below below_none = omega arith
good-Below (below_more {b = b} {c = c} {bs = bs} {cs = cs} follows rest) = simp sum_by-cons (step b c follows (good-Below rest))
  where
    step : (b c : Bool) → (b ≡ true → c ≡ true) → count_by not cs ≤ count_by not bs → cond (not c) 1 0 + count_by not cs ≤ cond (not b) 1 0 + count_by not bs
    step true true f h = omega arith
    step true false f h = absurd (false≢true (f refl))
    step false true f h = omega arith
    step false false f h = omega arith

-- the higher window weighs no less
pub weight-Below : (w : WeightParts) {bs cs : List Bool} → Below bs cs → weight w bs ≤ weight w cs
unfolding weight
weight-Below w {bs} {cs} r = larger w.up w.down _ _ _ _ (bad-Below r) (good-Below r)
  where
    larger : (up down bad good bad' good' : ℕ) → bad ≤ bad' → good' ≤ good → up * bad - down * good ≤ up * bad' - down * good'
    larger up down bad good bad' good' more fewer = grind arith

-- where each pair of windows carries one test over into another, so do the lists
windows-Below : {bs cs : List Bool} (p q : List Bool → Bool) → ((us vs : List Bool) → Below us vs → p us ≡ true → q vs ≡ true) →
    Below bs cs → list_any p (windows bs) ≡ true → list_any q (windows cs) ≡ true
unfolding windows
windows-Below p q carries below_none some = some
windows-Below p q carries (below_more {b = b} {c = c} {bs = bs} {cs = cs} follows rest) some =
    let some' = simp list_any-map at some in
    let goal : (q (c ∷ []) || list_any (λ us. q (c ∷ us)) (windows cs)) ≡ true =
    elim (or_cases (p (b ∷ [])) (list_any (λ us. p (b ∷ us)) (windows bs)) some') [
      | inl shortest ↦ or_left _ _ (carries _ _ (below_more follows below_none) shortest)
      | inr longer ↦ or_right _ _ (windows-Below (λ us. p (b ∷ us)) (λ us. q (c ∷ us)) (λ us vs r. carries (b ∷ us) (c ∷ vs) (below_more follows r)) rest longer)
    ] in
    simp list_any-map goal

-- where a list is reached, so is a higher one
pub is_reached-Below : (w : WeightParts) {bs cs : List Bool} → Below bs cs → is_reached w bs ≡ true → is_reached w cs ≡ true
unfolding is_reached
is_reached-Below w r reached = windows-Below (enough w) (enough w) (heavier w) r reached
  where
    enough : WeightParts → List Bool → Bool
    enough w us = nat_le w.limit (weight w us)

    heavier : (w : WeightParts) (us vs : List Bool) → Below us vs → enough w us ≡ true → enough w vs ≡ true
    heavier w us vs r heavy = let more = weight-Below w r in let low = leb-true _ _ heavy in le-leb _ _ (omega arith)

-- where a list is confirmed, so is a higher one
pub is_confirmed-Below : (w : WeightParts) {bs cs : List Bool} → Below bs cs → is_confirmed w bs ≡ true → is_confirmed w cs ≡ true
unfolding is_confirmed
is_confirmed-Below w below_none confirmed = confirmed
is_confirmed-Below w (below_more {b = b} {c = c} {bs = bs} {cs = cs} follows rest) confirmed =
    elim (or_cases (is_reached w (b ∷ bs)) (is_confirmed w bs) confirmed) [
      | inl now ↦ or_left _ _ (is_reached-Below w (below_more follows rest) now)
      | inr before ↦ or_right _ _ (is_confirmed-Below w rest before)
    ]
