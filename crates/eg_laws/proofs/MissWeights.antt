-- What verdicts weigh under misses that are far apart: two at most that are spoiled, and then right ones that take that
-- back before the next two.
use Rattle.std.proofs.Common.{◌≡◌, ℕ, ◌+◌, ◌-◌, ◌*◌, ◌≤◌, ◌<◌, Bool, true, false, List, [], ◌∷◌, inl, inr, ◌⊎◌, zero, suc, sym, ap, ◌∙◌, subst, arith}
use Rattle.std.proofs.lemmas.Bool.{cases_lt, lt-leb, or_from, true≢false}
use Rattle.eg_num.specs.Arithmetic.{quotient_up}
use Rattle.eg_num.specs.Windows.{WeightParts, is_reached, is_confirmed, greatest}
use Rattle.eg_num.proofs.CounterLemmas.{greatest-nil, greatest-bad, greatest-good, is_reached-greatest}
use Rattle.eg_answer.specs.Times.{TimeParts, periods_between_misses}
use Rattle.eg_model.proofs.LapseWeights.{rounded_up}

-- The verdicts of q periods, of which those from period `from` up to `settled`, `most` at the most, may be wrong, and the
-- others are right. At `from` what came before weighs nothing any more; the period before that has no verdict yet at
-- the earliest.
pub record Weighs (w : WeightParts) (most q from settled : ℕ) (bits : List Bool) : Type 0 where
  pub near : from ≤ q + 1
  pub span : settled ≤ from + most
  pub early : q ≤ from → greatest w bits ≤ (from - q) * w.down
  pub risen : from ≤ q → greatest w bits + (settled - q) * w.up ≤ most * w.up
  pub fallen : settled ≤ q → greatest w bits ≤ most * w.up - (q - settled) * w.down
  pub none : settled ≡ 0 → greatest w bits ≡ 0

pub weighs_at_first : (w : WeightParts) (most : ℕ) → Weighs w most 0 0 0 []
weighs_at_first w most = record {
  near = omega arith;
  span = omega arith;
  early = λ l. (let z = greatest-nil w in omega (arith, z));
  risen = λ l. (let z = greatest-nil w in omega (arith, z));
  fallen = λ l. (let z = greatest-nil w in omega (arith, z));
  none = λ e. greatest-nil w;
}

scaled : (a b d : ℕ) → a ≤ b → a * d ≤ b * d
scaled a b d l = grind arith

-- where so many may be wrong anew, from now on or from the next period on, and right ones have taken back what came
-- before
pub weighs_anew : (w : WeightParts) (most q from settled : ℕ) (bits : List Bool) → q ≤ from → from ≤ q + 1 → from < settled →
    settled ≤ from + most → greatest w bits ≤ (from - q) * w.down → Weighs w most q from settled bits
weighs_anew w most q from settled bits late near some span low = record {
  near = near;
  span = span;
  early = λ l. low;
  risen = λ l. rises (from - q) (settled - q) (omega (arith, l, late)) (omega (arith, span, l)) low;
  fallen = λ l. absurd (omega (arith, l, late, some));
  none = λ z. absurd (omega (arith, z, some));
}
  where
    rises : (k n : ℕ) → k ≡ 0 → n ≤ most → greatest w bits ≤ k * w.down → greatest w bits + n * w.up ≤ most * w.up
    rises k n none few low = let m = scaled n most w.up few in let z = ap (λ i. i * w.down) none in omega (arith, low, m, z)

-- one verdict more
weighs_bad : (w : WeightParts) (most q from settled : ℕ) (bits : List Bool) → from ≤ q → q + 1 ≤ settled → Weighs w most q from settled bits →
    Weighs w most (q + 1) from settled (true ∷ bits)
weighs_bad w most q from settled bits late early before = record {
  near = omega (arith, late);
  span = before.span;
  early = λ l. absurd (omega (arith, l, late));
  risen = λ l. rw (greatest-bad w bits) (more (greatest w bits) w.up (settled - (q + 1)) rise);
  fallen = λ l. rw (greatest-bad w bits) (subst (λ k. greatest w bits + w.up ≤ most * w.up - k * w.down) (sym past)
      (low (greatest w bits) w.up (settled - (q + 1)) w.down rise));
  none = λ z. absurd (omega (arith, z, early));
}
  where
    rise : greatest w bits + (settled - (q + 1) + 1) * w.up ≤ most * w.up
    rise = subst (λ k. greatest w bits + k * w.up ≤ most * w.up) (omega (arith, early)) (before.risen late)

    past : q + 1 - settled ≡ 0
    past = omega (arith, early)

    more : (g up k : ℕ) → g + (k + 1) * up ≤ most * up → g + up + k * up ≤ most * up
    more g up k l = omega (arith, l)

    low : (g up k down : ℕ) → g + (k + 1) * up ≤ most * up → g + up ≤ most * up - 0 * down
    low g up k down l = omega (arith, l)

weighs_good : (w : WeightParts) (most q from settled : ℕ) (bits : List Bool) → Weighs w most q from settled bits →
    Weighs w most (q + 1) from settled (false ∷ bits)
weighs_good w most q from settled bits before = record {
  near = omega (arith, before.near);
  span = before.span;
  early = λ l. rw (greatest-good w bits) (drops (greatest w bits) (from - q) (from - (q + 1)) w.down (omega (arith, l)) (before.early (omega (arith, l))));
  risen = λ l. rw (greatest-good w bits) (rise l);
  fallen = λ l. rw (greatest-good w bits) (fall l);
  none = λ z. rw (greatest-good w bits) (let n = before.none z in omega (arith, n));
}
  where
    drops : (g k n down : ℕ) → k ≡ n + 1 → g ≤ k * down → g - down ≤ n * down
    drops g k n down e l = let f : k * down ≡ (n + 1) * down = ap (λ i. i * down) e in omega (arith, l, f)

    -- at `from` nothing is left
    gone : q + 1 ≡ from → greatest w bits - w.down ≡ 0
    gone e = let d = drops (greatest w bits) (from - q) 0 w.down (omega (arith, e)) (before.early (omega (arith, e))) in omega (arith, d)

    rise : from ≤ q + 1 → greatest w bits - w.down + (settled - (q + 1)) * w.up ≤ most * w.up
    rise l = elim (cases_lt q from) [
      | inl here ↦ (let z = gone (omega (arith, l, here)) in
          let m = scaled (settled - (q + 1)) most w.up (let s = before.span in omega (arith, s, l)) in omega (arith, z, m))
      | inr past ↦ (let m = scaled (settled - (q + 1)) (settled - q) w.up (omega arith) in
          let r = before.risen past in omega (arith, m, r))
    ]

    falls : (g up down k next : ℕ) → g ≤ most * up → g ≤ most * up - k * down → next ≤ k + 1 → g - down ≤ most * up - next * down
    falls g up down k next r f l = let m = scaled next (k + 1) down l in omega (arith, r, f, m)

    fall : settled ≤ q + 1 → greatest w bits - w.down ≤ most * w.up - (q + 1 - settled) * w.down
    fall l = elim (cases_lt q settled) [
      | inr past ↦ falls (greatest w bits) w.up w.down (q - settled) (q + 1 - settled)
          (let f = before.fallen past in omega (arith, f)) (before.fallen past) (omega (arith, past))
      | inl here ↦ subst (λ k. greatest w bits - w.down ≤ most * w.up - k * w.down) (zero_is l here) (let r = rest in omega (arith, r))
    ]
      where
        zero_is : settled ≤ q + 1 → q < settled → 0 ≡ q + 1 - settled
        zero_is l here = omega (arith, here)

        rest : greatest w bits - w.down ≤ most * w.up
        rest = elim (cases_lt q from) [
          | inl near ↦ (let z = gone (let n = before.near in omega (arith, near, n)) in omega (arith, z))
          | inr past ↦ (let r = before.risen past in omega (arith, r))
        ]

pub weighs_more : (w : WeightParts) (most q from settled : ℕ) (bits : List Bool) (wrong : Bool) → ((q < from) ⊎ (settled ≤ q) → wrong ≡ false) →
    Weighs w most q from settled bits → Weighs w most (q + 1) from settled (wrong ∷ bits)
weighs_more w most q from settled bits false right before = weighs_good w most q from settled bits before
weighs_more w most q from settled bits true right before = elim (cases_lt q from) [
  | inl early ↦ absurd (true≢false (right (inl early)))
  | inr late ↦ elim (cases_lt q settled) [
    | inr past ↦ absurd (true≢false (right (inr past)))
    | inl among ↦ weighs_bad w most q from settled bits late (omega (arith, among)) before
  ]
]

-- the right verdicts between two misses, all but one, take back what the two wrong ones add
pub taken_back : (times : TimeParts) (most q from settled next : ℕ) (bits : List Bool) → most ≤ 2 → 1 ≤ times.weights.down → 1 ≤ times.weights.up →
    settled + periods_between_misses times ≤ next + 1 → q ≤ next → next ≤ q + 1 → Weighs times.weights most q from settled bits →
    greatest times.weights bits ≤ (next - q) * times.weights.down
unfolding periods_between_misses
taken_back times most q from settled next bits small some more far late near before =
    law (greatest times.weights bits) (q - settled) (next - q) (next - settled) (before.fallen passed) (omega (arith, passed, late)) enough
  where
    up : ℕ
    up = times.weights.up

    down : ℕ
    down = times.weights.down

    rounded : 2 * up ≤ quotient_up (2 * up) down * down
    rounded = rounded_up (2 * up) down some

    positive : 1 ≤ quotient_up (2 * up) down
    positive = law (quotient_up (2 * up) down) rounded
      where
        law : (n : ℕ) → 2 * up ≤ n * down → 1 ≤ n
        law zero l = absurd (omega (arith, l, more))
        law (suc n) l = omega arith

    passed : settled ≤ q
    passed = omega (arith, far, positive, near)

    enough : 2 * up ≤ (next - settled) * down
    enough = let m = scaled (quotient_up (2 * up) down) (next - settled) down (omega (arith, far)) in omega (arith, m, rounded)

    low : most * up ≤ 2 * up
    low = scaled most 2 up small

    law : (g k n whole : ℕ) → g ≤ most * up - k * down → whole ≡ k + n → 2 * up ≤ whole * down → g ≤ n * down
    law g k n whole f e l = let split : whole * down ≡ (k + n) * down = ap (λ i. i * down) e in let m = low in omega (arith, f, split, l, m)

-- so few wrong verdicts reach no limit
pub never_reached : (w : WeightParts) (most q from settled : ℕ) (bits : List Bool) → most * w.up < w.limit → from ≤ q → Weighs w most q from settled bits →
    is_reached w bits ≡ false
never_reached w most q from settled bits few late weighs = is_reached-greatest w bits (omega (arith, few))
    ∙ lt-leb w.limit (greatest w bits) (let r = weighs.risen late in omega (arith, r, few))

pub never_confirmed : (w : WeightParts) (wrong : Bool) (bits : List Bool) → is_reached w (wrong ∷ bits) ≡ false →
    is_confirmed w bits ≡ false → is_confirmed w (wrong ∷ bits) ≡ false
unfolding is_confirmed
never_confirmed w wrong bits now before = or_from _ _ now before
