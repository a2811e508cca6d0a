-- The answers that are kept: their order, how many there are, and what is kept with one more.
use Rattle.std.proofs.Common.{◌≡◌, ℕ, ◌+◌, ◌*◌, ◌/◌, ◌%◌, ◌≤◌, ◌<◌, List, [], ◌∷◌, ◌++◌, length, map, reverse, sym, ap, ◌∙◌, arith}
use Rattle.std.specs.Prelude.{All}
use Rattle.std.proofs.Math.Nat.{mod-lt}
use Rattle.std.proofs.lemmas.Nat.{div-add-mod'}
use Rattle.std.proofs.lemmas.List.{reverse-append, map-append, length-reverse, length-map}
use Rattle.std.proofs.lemmas.List.Elements.{All-cons, All-head, All-tail}
use Rattle.eg_answer.specs.Periods.{HeardAnswer, period_of}
use Rattle.eg_module.specs.Monitoring.{MonitorParts, AreInTurn, IsMonitor}
use Rattle.eg_module.specs.Inside.{heard_answer, newest_first}
use Rattle.eg_module.specs.declared.monitor.Heard.{Heard}

-- what is pushed last stands first
pub newest_first-push : (before : List Heard) (heard : Heard) → newest_first (before ++ heard ∷ []) ≡ heard_answer heard ∷ newest_first before
newest_first-push before heard = ap reverse (map-append heard_answer before (heard ∷ [])) ∙ reverse-append (map heard_answer before) (heard_answer heard ∷ [])

pub length-newest_first : (heard : List Heard) → length (newest_first heard) ≡ length heard
length-newest_first heard = length-reverse (map heard_answer heard) ∙ length-map heard heard_answer

-- answers that came one after another, from one tick on and before another, are at most as many as the ticks between
pub length-in_turn : (from to : ℕ) (heard : List HeardAnswer) → AreInTurn heard → All (λ answer. from ≤ answer.tick) heard →
    All (λ answer. answer.tick < to) heard → from ≤ to → length heard + from ≤ to
length-in_turn from to [] in_turn above below order = omega arith
length-in_turn from to (answer ∷ before) in_turn above below order =
    let here : from ≤ answer.tick = All-head (λ a. from ≤ a.tick) answer before above in
    let last : answer.tick < to = All-head (λ a. a.tick < to) answer before below in
    let rest = length-in_turn from answer.tick before in_turn.1 (All-tail (λ a. from ≤ a.tick) answer before above) in_turn.0 here in
    omega arith

-- a tick lies in its period
pub period_of-bounds : (tick period number : ℕ) → 2 ≤ period → number ≡ tick / period → (number * period ≤ tick) × (tick < number * period + period)
period_of-bounds tick period number long e =
    law number period (tick % period) tick (ap (λ n. n * period + tick % period) e ∙ div-add-mod' tick period) (mod-lt tick (positive long))
  where
    positive : {n : ℕ} → 2 ≤ n → 0 < n
    positive h = omega arith

    law : (number period place tick : ℕ) → number * period + place ≡ tick → place < period → (number * period ≤ tick) × (tick < number * period + period)
    law number period place tick e h = (omega arith, omega arith)

-- so there are fewer than the period has ticks, and there is room for one more
pub room : (m : MonitorParts) (tick : ℕ) → IsMonitor m → m.verdicts ≡ period_of m.times tick → All (λ answer. answer.tick < tick) m.heard → length m.heard < m.times.period
unfolding period_of
room m tick keeps now later =
    let bounds = period_of-bounds tick m.times.period m.verdicts keeps.times.shortest now in
    let above : All (λ answer. m.verdicts * m.times.period ≤ answer.tick) m.heard =
    λ k d inside. (period_of-bounds _ m.times.period m.verdicts keeps.times.shortest (sym (keeps.one_period k d inside))).0 in
    law (length m.heard) m.verdicts m.times.period tick (length-in_turn _ tick m.heard keeps.in_turn above later bounds.0) bounds.1
  where
    law : (n number period tick : ℕ) → n + number * period ≤ tick → tick < number * period + period → n < period
    law n number period tick most end = omega arith

-- one answer more in the same period, later than the others
pub IsMonitor-hear : (m : MonitorParts) (tick number : ℕ) → IsMonitor m → m.verdicts ≡ period_of m.times tick →
    All (λ answer. answer.tick < tick) m.heard → IsMonitor (record m { heard = (record { tick = tick; number = number }) ∷ m.heard })
IsMonitor-hear m tick number keeps now later = record {
  times = keeps.times;
  weights = keeps.weights;
  two_questions = keeps.two_questions;
  in_turn = (later, keeps.in_turn);
  one_period = All-cons (λ answer. period_of m.times answer.tick ≡ m.verdicts) _ m.heard (sym now) keeps.one_period;
  within = keeps.within;
}
