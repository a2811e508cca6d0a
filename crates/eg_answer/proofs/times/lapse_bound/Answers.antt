use Rattle.std.proofs.Common.{◌≡◌, ℕ, ◌+◌, ◌-◌, ◌*◌, ◌≤◌, ◌<◌, sym, ap, ap₂, ◌∙◌, subst, arith}
use Rattle.std.specs.Int.{div_ceil}
use Rattle.eg_num.specs.Arithmetic.{quotient_up}
use Rattle.eg_num.specs.Windows.{WeightParts}
use Rattle.eg_answer.specs.Times.{worth_of, rounds_to_confirm, lapse_periods, lapse_bound_of}
use Rattle.eg_answer.proofs.QuotientLemmas.{div_ceil-quotient_up, div_ceil_within}
use Rattle.eg_answer.proofs.times.lapse_bound.Goals as goal

-- so many rounds of these periods fit a word of 32 bits
fits_word : (rounds periods period : ℕ) → rounds ≤ 10000 → periods * period < 10000 + period → period ≤ 100 → (rounds * periods + 2) * period < 4294967296
fits_word rounds periods period few short brief = total (times rounds (periods * period) few (omega arith))
  where
    times : (a b : ℕ) → a ≤ 10000 → b ≤ 10100 → a * b ≤ 101000000
    times a b la lb = let one : a * b ≤ 10000 * b = grind (arith, la) in omega (arith, one)

    total : rounds * (periods * period) ≤ 101000000 → (rounds * periods + 2) * period < 4294967296
    total h = omega arith

pub overflow_mul-result-then-taken-up : goal.overflow_mul-result-then-taken-up
overflow_mul-result-then-taken-up c =
    let period : c.from-then-taken-up-2.result ≡ c.args.times.now.period = c.from-then-taken-up-2.ensures ∙ c.period.ensures.period in
    let few = within _ _ _ c.div_ceil-rounds.ensures (omega arith) in
    let ticks = subst (λ n. c.periods_to_confirm-periods.result * n < 10000 + n) (sym period) c.periods_to_confirm-periods.ensures.ticks in
    let fits = fits_word c.div_ceil-rounds.result c.periods_to_confirm-periods.result c.from-then-taken-up-2.result (omega arith) ticks (omega arith) in
    omega (arith, fits)
  where
    within : (q a b : ℕ) → q ≡ div_ceil a b → 0 < b → q ≤ a
    within q a b is positive = rw is (div_ceil_within a b positive)

pub returns-then-taken-up : goal.returns-then-taken-up
unfolding worth_of rounds_to_confirm lapse_periods lapse_bound_of
returns-then-taken-up c =
    let up : c.from-up.result ≡ c.args.times.now.weights.up = c.from-up.ensures ∙ c.up.ensures.up ∙ ap (λ (w : WeightParts). w.up) c.weights-answers.ensures.weights in
    let down : c.from.result ≡ c.args.times.now.weights.down = c.from.ensures ∙ c.down.ensures.down ∙ ap (λ (w : WeightParts). w.down) c.weights-answers.ensures.weights in
    let limit : c.from-then-taken-up.result ≡ c.args.times.now.weights.limit = c.from-then-taken-up.ensures ∙ c.limit.ensures.limit ∙ ap (λ (w : WeightParts). w.limit) c.weights-answers.ensures.weights in
    let period : c.from-then-taken-up-2.result ≡ c.args.times.now.period = c.from-then-taken-up-2.ensures ∙ c.period.ensures.period in
    let periods = c.periods_to_confirm-periods.ensures.number in
    let taken = ap₂ (λ n d. (n - 1) * d) periods down in
    let rounds = c.div_ceil-rounds.ensures ∙ div_ceil-quotient_up c.from-then-taken-up.result (c.from-up.result - (c.periods_to_confirm-periods.result - 1) * c.from.result) (omega arith)
    ∙ ap₂ quotient_up limit (ap₂ (λ a b. a - b) up taken) in
    (rw (← taken, ← up) c.if-taken-up.true, ap₂ (λ n p. (n + 2) * p) (ap₂ (λ a b. a * b) rounds periods) period ∙ ap (λ n. n * c.args.times.now.period) (two _))
  where
    two : (n : ℕ) → n + 2 ≡ n + 1 + 1
    two n = omega arith
