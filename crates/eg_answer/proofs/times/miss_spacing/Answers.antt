use Rattle.std.proofs.Common.{◌≡◌, ℕ, zero, suc, ◌+◌, ◌-◌, ◌*◌, ◌≤◌, ◌<◌, sym, ap, ap₂, ◌∙◌, subst, arith}
use Rattle.std.proofs.lemmas.Grind.{div_ceil_times}
use Rattle.eg_num.specs.Arithmetic.{quotient_up}
use Rattle.eg_num.specs.Windows.{WeightParts}
use Rattle.eg_answer.specs.Times.{periods_between_misses, miss_spacing_of}
use Rattle.eg_answer.proofs.QuotientLemmas.{div_ceil-quotient_up}
use Rattle.eg_answer.proofs.times.miss_spacing.Goals as goal

-- a number of periods that takes so much back isn't less than the rounded quotient and one
least : (q spoiled down periods : ℕ) → q * down < spoiled + down → 1 ≤ spoiled → spoiled ≤ (periods - 1) * down → q + 1 ≤ periods
least q spoiled down zero small some h = absurd (omega (arith, h, some))
least q spoiled down (suc n) small some h =
    let one : suc n - 1 ≡ n = omega arith in
    let enough : spoiled ≤ n * down = subst (λ k. spoiled ≤ k * down) one h in
    let less : q ≤ n = below q n down (omega arith) in
    omega arith
  where
    below : (q n down : ℕ) → q * down < n * down + down → q ≤ n
    below q n down h = grind (arith, h)

pub returns-then-spoiled-from-clause-distance : goal.returns-then-spoiled-from-clause-distance
unfolding periods_between_misses miss_spacing_of
returns-then-spoiled-from-clause-distance c =
    let weights = c.weights-answers.ensures.weights in
    let up : c.from-spoiled.result ≡ c.args.times.now.weights.up = c.from-spoiled.ensures ∙ c.up.ensures.up ∙ ap (λ (w : WeightParts). w.up) weights in
    let down : c.from-down.result ≡ c.args.times.now.weights.down = c.from-down.ensures ∙ c.down.ensures.down ∙ ap (λ (w : WeightParts). w.down) weights in
    let limit : c.from.result ≡ c.args.times.now.weights.limit = c.from.ensures ∙ c.limit.ensures.limit ∙ ap (λ (w : WeightParts). w.limit) weights in
    let period = c.from-then-spoiled-from.ensures ∙ c.period.ensures.period in
    let rounded = div_ceil-quotient_up _ c.from-down.result c.if-down-ge1.true in
    let periods = c.div_ceil-periods.ensures ∙ rounded ∙ ap₂ (λ u d. quotient_up (2 * u) d) up down in
    (record { two_are_few = omega arith; some_taken = omega arith }, ap₂ (λ n p. (n + 1) * p + 1) periods period)

pub returns-then-spoiled-from-clause-least : goal.returns-then-spoiled-from-clause-least
returns-then-spoiled-from-clause-least c periods enough =
    let weights = c.weights-answers.ensures.weights in
    let up : c.from-spoiled.result ≡ c.args.times.now.weights.up = c.from-spoiled.ensures ∙ c.up.ensures.up ∙ ap (λ (w : WeightParts). w.up) weights in
    let down : c.from-down.result ≡ c.args.times.now.weights.down = c.from-down.ensures ∙ c.down.ensures.down ∙ ap (λ (w : WeightParts). w.down) weights in
    let period = c.from-then-spoiled-from.ensures ∙ c.period.ensures.period in
    let spoiled = 2 * c.from-spoiled.result in
    let rounded = (div_ceil_times spoiled c.from-down.result c.if-down-ge1.true).1 in
    let small = subst (λ q. q * c.from-down.result < spoiled + c.from-down.result) (sym c.div_ceil-periods.ensures) rounded in
    let back : spoiled ≤ (periods - 1) * c.from-down.result = rw (up, down) enough in
    let less = least c.div_ceil-periods.result spoiled c.from-down.result periods small (omega arith) back in
    let ticks = scaled _ _ c.from-then-spoiled-from.result less in
    subst (λ p. (c.div_ceil-periods.result + 1) * c.from-then-spoiled-from.result + 1 ≤ periods * p + 1) period (omega (arith, ticks))
  where
    scaled : (a b p : ℕ) → a ≤ b → a * p ≤ b * p
    scaled a b p h = grind (arith, h)

pub returns-then-spoiled-from-clause-enough : goal.returns-then-spoiled-from-clause-enough
returns-then-spoiled-from-clause-enough c =
    let weights = c.weights-answers.ensures.weights in
    let up : c.from-spoiled.result ≡ c.args.times.now.weights.up = c.from-spoiled.ensures ∙ c.up.ensures.up ∙ ap (λ (w : WeightParts). w.up) weights in
    let down : c.from-down.result ≡ c.args.times.now.weights.down = c.from-down.ensures ∙ c.down.ensures.down ∙ ap (λ (w : WeightParts). w.down) weights in
    let period = c.from-then-spoiled-from.ensures ∙ c.period.ensures.period in
    let rounded = (div_ceil_times (2 * c.from-spoiled.result) c.from-down.result c.if-down-ge1.true).0 in
    let back = subst (λ q. 2 * c.from-spoiled.result ≤ q * c.from-down.result) (sym c.div_ceil-periods.ensures) rounded in
    record {
      periods = c.div_ceil-periods.result + 1;
      are = ap (λ p. (c.div_ceil-periods.result + 1) * p + 1) period;
      enough = rw (← up, ← down) (all_but_one c.div_ceil-periods.result _ c.from-down.result back);
    }
  where
    all_but_one : (q spoiled down : ℕ) → spoiled ≤ q * down → spoiled ≤ (q + 1 - 1) * down
    all_but_one q spoiled down h = subst (λ n. spoiled ≤ n * down) (let one : q ≡ q + 1 - 1 = omega arith in one) h
