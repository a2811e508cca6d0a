-- Verdicts: over which answers they are right, and what they do to the count and the counter.
use Rattle.std.proofs.Common.{◌≡◌, ◌≢◌, ◌&&◌, ℕ, suc, ◌+◌, ◌*◌, ◌/◌, ◌%◌, ◌^◌, ◌≤◌, ◌<◌, Bool, true, false, List, [], ◌∷◌, length, map, refl, sym, ap, ◌∙◌, arith}
use Rattle.std.specs.Prelude.{◌↔◌, nat_le, ◌==◌, if◌then◌else◌, slice_index_or}
use Rattle.std.proofs.lemmas.List.{length-map}
use Rattle.std.proofs.lemmas.Bool.{eqb-true, eqb-false, eq-eqb, leb-true, le-leb, and_parts, and_from}
use Rattle.std.proofs.Math.Nat.{mod-lt, zero-div, mul-le-mul_left}
use Rattle.std.proofs.lemmas.Nat.{div-add-mod', div-mul-add}
use Rattle.eg_num.specs.Windows.{WeightParts, greatest, greatest_of, windows, is_confirmed}
use Rattle.eg_num.specs.Counting.{counted, fed}
use Rattle.eg_num.proofs.CounterLemmas.{StandsFor-cons, StandsFor-confirmed}
use Rattle.eg_answer.specs.Times.{TimeParts, AreTimes}
use Rattle.eg_answer.specs.Periods.{HeardAnswer, MarkedAnswer, period_of, place_of, is_last_tick, is_wrong, verdict_of, verdict_over, marked, is_in_window, IsAnswered}
use Rattle.eg_answer.specs.declared.marks.Verdict.{Verdict}
use Rattle.eg_answer.specs.declared.marks.Verdict.TheVariants.{Right, Wrong}
use Rattle.eg_module.specs.Monitoring.{MonitorParts, IsMonitor, HasGiven}
use Rattle.eg_module.specs.Inside.{newest_first}
use Rattle.eg_module.specs.declared.monitor.Heard.{Heard}
use Rattle.eg_module.proofs.HeardLemmas.{length-newest_first, period_of-bounds}

-- before the first feed the counter is 0
pub counted-none : (w : WeightParts) → 0 ≡ counted w []
unfolding counted is_confirmed greatest greatest_of windows
counted-none w = refl

-- one verdict more
pub HasGiven-close : (m : MonitorParts) (verdict : Verdict) (verdicts : List Verdict) → 1 ≤ m.times.weights.limit → HasGiven m verdicts →
    HasGiven (record m { verdicts = m.verdicts + 1; heard = []; value = fed m.times.weights m.value (is_wrong verdict) }) (verdict ∷ verdicts)
HasGiven-close m verdict verdicts positive given = record {
  count = (let count = given.count in omega arith);
  counter = StandsFor-cons m.times.weights m.value (is_wrong verdict) (map is_wrong verdicts) positive given.counter;
}

-- the counter is at its limit exactly if the wrong verdicts are confirmed
pub HasGiven-confirmed : (m : MonitorParts) (verdicts : List Verdict) → 1 ≤ m.times.weights.limit → HasGiven m verdicts →
    (m.value == m.times.weights.limit) ≡ is_confirmed m.times.weights (map is_wrong verdicts)
HasGiven-confirmed m verdicts positive given = StandsFor-confirmed m.times.weights m.value (map is_wrong verdicts) positive given.counter

-- the first tick lies in the first period
pub period_of-zero : (times : TimeParts) → period_of times 0 ≡ 0
unfolding period_of
period_of-zero times = zero-div times.period

-- after the last tick of a period the next period begins
pub period_of-last : (times : TimeParts) (tick : ℕ) → AreTimes times → is_last_tick times tick ≡ true → period_of times (tick + 1) ≡ period_of times tick + 1
unfolding period_of is_last_tick place_of
period_of-last times tick are is_last =
    ap (λ n. n / times.period) (law (tick / times.period) times.period (tick % times.period) tick (div-add-mod' tick times.period) (eqb-true _ _ is_last))
    ∙ div-mul-add (tick / times.period + 1) times.period 0 (positive are.shortest)
  where
    positive : {n : ℕ} → 2 ≤ n → 0 < n
    positive h = omega arith

    law : (number period place tick : ℕ) → number * period + place ≡ tick → place + 1 ≡ period → tick + 1 ≡ (number + 1) * period + 0
    law number period place tick e h = omega arith

-- and after any other tick it goes on
pub period_of-other : (times : TimeParts) (tick : ℕ) → AreTimes times → is_last_tick times tick ≡ false → period_of times (tick + 1) ≡ period_of times tick
unfolding period_of is_last_tick place_of
period_of-other times tick are other =
    ap (λ n. n / times.period) (law (tick / times.period) times.period (tick % times.period) tick (div-add-mod' tick times.period))
    ∙ div-mul-add (tick / times.period) times.period (tick % times.period + 1)
    (within (tick % times.period) times.period (mod-lt tick (positive are.shortest)) (eqb-false _ _ other))
  where
    positive : {n : ℕ} → 2 ≤ n → 0 < n
    positive h = omega arith

    within : (place period : ℕ) → place < period → place + 1 ≢ period → place + 1 < period
    within place period h other = omega arith

    law : (number period place tick : ℕ) → number * period + place ≡ tick → tick + 1 ≡ number * period + (place + 1)
    law number period place tick e = omega arith

-- a period has at least two ticks, so the count of verdicts fits where the tick does
pub verdicts_fit : (m : MonitorParts) (tick : ℕ) → IsMonitor m → m.verdicts ≡ period_of m.times tick → tick < 2 ^ 32 → m.verdicts + 1 < 2 ^ 32
unfolding period_of
verdicts_fit m tick keeps now small =
    law m.verdicts m.times.period tick (period_of-bounds tick m.times.period m.verdicts keeps.times.shortest now).0 keeps.times.shortest small
  where
    law : (number period tick : ℕ) → number * period ≤ tick → 2 ≤ period → tick < 2 ^ 32 → number + 1 < 2 ^ 32
    law number period tick h long small = let twice : number * 2 ≤ number * period = mul-le-mul_left number long in omega arith

-- over one answer the verdict is right exactly if it is,
pub verdict_over-one : (times : TimeParts) (expected : ℕ) (heard : List Heard) (d : Heard) (right : Bool) → length heard ≡ 1 →
    right ≡ (is_in_window times (slice_index_or heard 0 d).tick && ((slice_index_or heard 0 d).number == expected)) →
    verdict_over times expected (newest_first heard) ≡ if right then Right else Wrong
unfolding verdict_over verdict_of marked
verdict_over-one times expected [] d right one e = cc
verdict_over-one times expected (heard ∷ []) d right one e = ap (λ b. if b then Right else Wrong) (sym e)
verdict_over-one times expected (heard ∷ other ∷ others) d right one e = absurd (let h : suc (suc (length others)) ≡ 1 = one in omega arith)

-- and over none or more it is wrong
verdict_of-many : (times : TimeParts) (answers : List MarkedAnswer) → length answers ≢ 1 → verdict_of times answers ≡ Wrong
unfolding verdict_of
verdict_of-many times [] many = refl
verdict_of-many times (answer ∷ []) many = absurd (many refl)
verdict_of-many times (answer ∷ other ∷ others) many = refl

pub verdict_over-many : (times : TimeParts) (expected : ℕ) (heard : List Heard) → length heard ≢ 1 → verdict_over times expected (newest_first heard) ≡ Wrong
unfolding verdict_over
verdict_over-many times expected heard many =
    verdict_of-many times (map (marked expected) (newest_first heard))
    (λ one. many (sym (length-newest_first heard) ∙ sym (length-map (newest_first heard) (marked expected)) ∙ one))

-- so in words: a verdict is right exactly if one answer came, in the window, and it was the expected number
chosen_right : (b : Bool) → (if b then Right else Wrong) ≡ Right → b ≡ true
chosen_right true e = refl
chosen_right false e = cc

IsAnswered-from : (times : TimeParts) (expected : ℕ) (heard : List HeardAnswer) → verdict_over times expected heard ≡ Right → IsAnswered times expected heard
unfolding verdict_over verdict_of marked is_in_window place_of
IsAnswered-from times expected [] e = cc
IsAnswered-from times expected (answer ∷ []) e =
    let place : ℕ = answer.tick % times.period in
    let both = and_parts (nat_le times.first place && nat_le place times.last) (answer.number == expected) (chosen_right _ e) in
    let window = and_parts (nat_le times.first place) (nat_le place times.last) both.0 in
    record {
      answer = answer;
      alone = refl;
      from_first = leb-true _ _ window.0;
      to_last = leb-true _ _ window.1;
      expected_one = eqb-true _ _ both.1;
    }
IsAnswered-from times expected (answer ∷ other ∷ others) e = cc

verdict_over-answered : (times : TimeParts) (expected : ℕ) (heard : List HeardAnswer) → IsAnswered times expected heard → verdict_over times expected heard ≡ Right
unfolding verdict_over verdict_of marked is_in_window place_of
verdict_over-answered times expected heard is =
    let place : ℕ = is.answer.tick % times.period in
    let window = and_from (nat_le times.first place) (nat_le place times.last) (le-leb _ _ is.from_first) (le-leb _ _ is.to_last) in
    ap (verdict_over times expected) is.alone
    ∙ ap (λ b. if b then Right else Wrong) (and_from (nat_le times.first place && nat_le place times.last) (is.answer.number == expected) window (eq-eqb _ _ is.expected_one))

pub verdict_over-right : (times : TimeParts) (expected : ℕ) (heard : List HeardAnswer) → (verdict_over times expected heard ≡ Right) ↔ IsAnswered times expected heard
verdict_over-right times expected heard = (IsAnswered-from times expected heard, verdict_over-answered times expected heard)

pub ruleset judging = (verdict_over-one, verdict_over-many)
