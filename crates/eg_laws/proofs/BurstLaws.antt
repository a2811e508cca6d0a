-- How many ticks of a window can have excess that isn't confirmed.
use Rattle.std.proofs.Common.{◌≡◌, ℕ, zero, suc, ◌+◌, ◌-◌, ◌*◌, ◌≤◌, ◌<◌, Bool, true, false, not, List, [], ◌∷◌, ◌++◌, length, refl, sym, ap, ◌∙◌, subst, arith, inl, inr, ◌⊎◌, min}
use Rattle.std.specs.Prelude.{if◌then◌else◌}
use Rattle.std.proofs.Math.Nat.{le-div_iff_mul-le, div-lt_iff_lt-mul}
use Rattle.std.proofs.lemmas.Bool.{or_from, or_parts, lt-leb, leb-true, leb-false}
use Rattle.eg_num.specs.Windows.{WeightParts, AreWeights, is_reached, is_confirmed, greatest}
use Rattle.eg_num.proofs.CounterLemmas.{greatest-nil, greatest-bad, greatest-good, is_reached-greatest, greatest_below}
use Rattle.eg_laws.specs.Bursts.{most_bad, bad_in, BurstsAreSparse, densest, SoManyCanBeBad, hasty, FewerMayDo}
use Rattle.eg_model.proofs.LapseRuns.{count-cons}

pub bad_in-cons : (b : Bool) (bits : List Bool) → bad_in (b ∷ bits) ≡ (if b then suc (bad_in bits) else bad_in bits)
unfolding bad_in
bad_in-cons b bits = count-cons (λ bad. bad) b bits

-- before it is confirmed it wasn't
pub unconfirmed_before : (w : WeightParts) (b : Bool) (bits : List Bool) → is_confirmed w (b ∷ bits) ≡ false → is_confirmed w bits ≡ false
unfolding is_confirmed
unconfirmed_before w b bits none = (or_parts _ _ none).1

-- what the bad feeds of a window add is no more than the greatest weight, and what its good ones take
weighs : (w : WeightParts) (window before : List Bool) →
    (w.up + w.down) * bad_in window ≤ greatest w (window ++ before) + length window * w.down
weighs w [] before = go (unfold bad_in in refl)
  where
    go : bad_in [] ≡ 0 → (w.up + w.down) * bad_in [] ≤ greatest w before + 0 * w.down
    go e = rw e (omega arith)
weighs w (true ∷ window) before = rw (bad_in-cons true window, greatest-bad w (window ++ before))
    (more w.up w.down (bad_in window) (greatest w (window ++ before)) (length window) (weighs w window before))
  where
    more : (u d bad g n : ℕ) → (u + d) * bad ≤ g + n * d → (u + d) * suc bad ≤ g + u + suc n * d
    more u d bad g n l = grind arith
weighs w (false ∷ window) before = rw (bad_in-cons false window, greatest-good w (window ++ before))
    (more w.up w.down (bad_in window) (greatest w (window ++ before)) (length window) (weighs w window before))
  where
    more : (u d bad g n : ℕ) → (u + d) * bad ≤ g + n * d → (u + d) * bad ≤ g - d + suc n * d
    more u d bad g n l = omega (arith, l)

pub bursts_are_sparse : BurstsAreSparse
unfolding most_bad
bursts_are_sparse w are window before none =
    let less = greatest_below w (window ++ before) are.3 none in
    let weigh = weighs w window before in
    let turned = turn (w.up + w.down) (bad_in window) in
    (le-div_iff_mul-le (let a = are.0 in omega arith)).1 (omega (arith, less, weigh, turned))
  where
    turn : (n bad : ℕ) → bad * n ≡ n * bad
    turn n bad = grind arith

-- ---- the densest feeds ----

-- what n feeds weigh, and how many are bad
record Dense (w : WeightParts) (n : ℕ) (bits : List Bool) : Type 0 where
  none : is_confirmed w bits ≡ false
  -- nothing of what good ones take is lost
  exact : (w.up + w.down) * bad_in bits ≡ greatest w bits + n * w.down
  within : bad_in bits ≤ n
  below : greatest w bits < w.limit
  -- all are bad, or one more would reach the limit but for a good one
  full : (bad_in bits ≡ n) ⊎ (w.limit ≤ greatest w bits + (w.up + w.down))

module _ (w : WeightParts) (are : AreWeights w) (fits : w.up + w.down ≤ w.limit) where
  limit_positive : 1 ≤ w.limit
  limit_positive = are.3

  at_first : Dense w zero []
  at_first = record {
    none = unfold is_confirmed in refl;
    exact = rw (greatest-nil w, none_bad) (omega arith);
    within = rw none_bad (omega arith);
    below = let g = greatest-nil w in let l = limit_positive in omega (arith, g, l);
    full = inl none_bad;
  }
    where
      none_bad : bad_in [] ≡ 0
      none_bad = unfold bad_in in refl

  module _ (n : ℕ) (bits : List Bool) (before : Dense w n bits) where
    -- one more is bad, where the limit isn't reached
    one_bad : is_reached w (true ∷ bits) ≡ false → Dense w (suc n) (true ∷ bits)
    one_bad unreached = record {
      none = unfold is_confirmed in or_from _ _ unreached before.none;
      exact = rw (bad_in-cons true bits, greatest-bad w bits)
          (more w.up w.down (bad_in bits) (greatest w bits) n before.exact);
      within = rw (bad_in-cons true bits) (let l = before.within in omega (arith, l));
      below = leb-false _ _ (sym (is_reached-greatest w (true ∷ bits) limit_positive) ∙ unreached);
      full = elim before.full [
        | inl all ↦ inl (bad_in-cons true bits ∙ ap suc all)
        | inr close ↦ inr (rw (greatest-bad w bits) (omega (arith, close)))
      ];
    }
      where
        more : (u d bad g n : ℕ) → (u + d) * bad ≡ g + n * d → (u + d) * suc bad ≡ g + u + suc n * d
        more u d bad g n e = grind arith

    -- where it is reached, one more is good
    one_good : is_reached w (true ∷ bits) ≡ true → Dense w (suc n) (false ∷ bits)
    one_good reached = record {
      none = unfold is_confirmed in or_from _ _
          (is_reached-greatest w (false ∷ bits) limit_positive
          ∙ lt-leb _ _ (rw (greatest-good w bits) (let l = before.below in omega (arith, l)))) before.none;
      exact = rw (bad_in-cons false bits, greatest-good w bits)
          (more w.up w.down w.limit (bad_in bits) (greatest w bits) n before.exact high fits);
      within = rw (bad_in-cons false bits) (let l = before.within in omega (arith, l));
      below = rw (greatest-good w bits) (let l = before.below in omega (arith, l));
      full = inr (rw (greatest-good w bits) (let l = high in omega (arith, l)));
    }
      where
        high : w.limit ≤ greatest w bits + w.up
        high = subst (λ g. w.limit ≤ g) (greatest-bad w bits)
            (leb-true _ _ (sym (is_reached-greatest w (true ∷ bits) limit_positive) ∙ reached))

        more : (u d l bad g n : ℕ) → (u + d) * bad ≡ g + n * d → l ≤ g + u → u + d ≤ l →
            (u + d) * bad ≡ g - d + suc n * d
        more u d l bad g n e high fits = omega (arith, e, high, fits)

  one_more : (n : ℕ) (bits : List Bool) → Dense w n bits → Dense w (suc n) (not (is_reached w (true ∷ bits)) ∷ bits)
  one_more n bits before = go (is_reached w (true ∷ bits)) refl
    where
      go : (b : Bool) → is_reached w (true ∷ bits) ≡ b → Dense w (suc n) (not (is_reached w (true ∷ bits)) ∷ bits)
      go true e = subst (λ b. Dense w (suc n) (not b ∷ bits)) (sym e) (one_good n bits before e)
      go false e = subst (λ b. Dense w (suc n) (not b ∷ bits)) (sym e) (one_bad n bits before e)

  dense : (n : ℕ) → Dense w n (densest w n)
  unfolding densest
  dense zero = at_first
  dense (suc n) = one_more n (densest w n) (dense n)

  reached_by : (n : ℕ) (bits : List Bool) → Dense w n bits → bad_in bits ≡ min n (most_bad w n)
  unfolding most_bad
  reached_by n bits d = elim d.full [
    | inl all ↦ least all ((le-div_iff_mul-le some).1
        (room w.up w.down w.limit (bad_in bits) (greatest w bits) n d.exact d.below (omega (arith, all))))
    | inr close ↦ exactly ((le-div_iff_mul-le some).1
        (room w.up w.down w.limit (bad_in bits) (greatest w bits) n d.exact d.below (omega arith)))
        ((div-lt_iff_lt-mul some).1
        (over w.up w.down w.limit (bad_in bits) (greatest w bits) n d.exact limit_positive close)) d.within
  ]
    where
      some : 0 < w.up + w.down
      some = let a = are.0 in omega arith

      room : (u d l bad g n : ℕ) {k : ℕ} → (u + d) * bad ≡ g + n * d → g < l → k ≡ bad → k * (u + d) ≤ l - 1 + n * d
      room u d l bad g n e less same =
          let turned : bad * (u + d) ≡ (u + d) * bad = grind arith in rw same (omega (arith, turned, e, less))

      over : (u d l bad g n : ℕ) → (u + d) * bad ≡ g + n * d → 1 ≤ l → l ≤ g + (u + d) → l - 1 + n * d < suc bad * (u + d)
      over u d l bad g n e one close =
          let turned : suc bad * (u + d) ≡ (u + d) * bad + (u + d) = grind arith in omega (arith, turned, e, one, close)

      least : {b q : ℕ} → b ≡ n → n ≤ q → b ≡ min n q
      least e l = omega (arith, e, l)

      exactly : {b q : ℕ} → b ≤ q → q < suc b → b ≤ n → b ≡ min n q
      exactly l m k = omega (arith, l, m, k)

pub so_many_can_be_bad : SoManyCanBeBad
so_many_can_be_bad w are fits n = let d = dense w are fits n in (d.none, reached_by w are fits n (densest w n) d)

-- ---- fewer ----

-- twice the bad ones are no more than all of them, and what they weigh
weighs_half : (window before : List Bool) → is_confirmed hasty (window ++ before) ≡ false →
    2 * bad_in window ≤ length window + greatest hasty (window ++ before)
weighs_half [] before none = go (unfold bad_in in refl)
  where
    go : bad_in [] ≡ 0 → 2 * bad_in [] ≤ 0 + greatest hasty before
    go e = rw e (omega arith)
weighs_half (true ∷ window) before none = rw (bad_in-cons true window, greatest-bad hasty (window ++ before))
    (let more = greatest_below hasty (true ∷ window ++ before) (omega arith) none in
    let weigh = weighs_half window before (unconfirmed_before hasty true (window ++ before) none) in
    let bad = greatest-bad hasty (window ++ before) in omega (arith, more, weigh, bad))
weighs_half (false ∷ window) before none = rw (bad_in-cons false window, greatest-good hasty (window ++ before))
    (let less = greatest_below hasty (window ++ before) (omega arith) (unconfirmed_before hasty false (window ++ before) none) in
    let weigh = weighs_half window before (unconfirmed_before hasty false (window ++ before) none) in omega (arith, less, weigh))

pub fewer_may_do : FewerMayDo
fewer_may_do window before none =
    let weigh = weighs_half window before none in
    let less = greatest_below hasty (window ++ before) (omega arith) none in omega (arith, weigh, less)
