-- What the words stand for: at the start, in their ranges, and after one tick more.
use Rattle.std.proofs.Common.{◌≡◌, ℕ, ◌≤◌, Bool, true, false, ◌||◌, List, [], ◌∷◌, map, refl, sym, inl, inr, arith}
use Rattle.std.specs.Prelude.{if◌then◌else◌}
use Rattle.std.specs.List.{filter}
use Rattle.std.proofs.lemmas.Bool.{or_left, or_right, or_cases, true≢false}
use Rattle.eg_num.specs.Windows.{WeightParts}
use Rattle.eg_num.specs.Counting.{fed, counted}
use Rattle.eg_num.proofs.CounterLemmas.{counted-nil, counted-cons, counted_within}
use Rattle.eg_level2.specs.Words.{start}
use Rattle.eg_model.specs.History.{Setting, Tick, SpanKind, Moment, Signals}
use Rattle.eg_model.specs.Signals.{tripped, is_limited, no_signals, last_signals}
use Rattle.eg_model.specs.Detection.{fed_bits}
use Rattle.eg_model.specs.Moments.{moments_in}
use Rattle.eg_agree.specs.Standing.{signals_of, mirror_found, counter_after, limp_after, trip_after}
use Rattle.eg_agree.specs.Ticking.{StartLaw, WithinLaw}
use Rattle.eg_agree.proofs.MomentLemmas.{trips_from_mirror}

-- a trip came where a word was found to differ from its complement
pub mirror_trips : (kind : SpanKind) (s : Setting) (h : List Tick) → mirror_found (moments_in kind s h) ≡ true →
    tripped (moments_in kind s h) ≡ true
unfolding moments_in mirror_found tripped
mirror_trips kind s [] found = found
mirror_trips kind s (x ∷ h) found =
    elim (or_cases _ _ found) [
      | inl now ↦ or_left _ _ (trips_from_mirror kind s x.effects x.entry (moments_in kind s h) now)
      | inr before ↦ or_right _ _ (mirror_trips kind s h before)
    ]

-- a counter after one tick more, where nothing is fed once a word was found to differ
pub counter_after-cons : (weights : WeightParts) (is_bad : Signals → Bool) (m : Moment)
    (past : List Moment) → 1 ≤ weights.limit → (mirror_found past ≡ true → m.feeds ≡ false) →
    counter_after weights is_bad (m ∷ past)
    ≡ (if m.found.mirror then 0 else if m.feeds then fed weights (counter_after weights is_bad past)
    (is_bad m.signals) else counter_after weights is_bad past)
unfolding counter_after mirror_found fed_bits
counter_after-cons weights is_bad m past positive quiet =
    go m.found.mirror (mirror_found past) m.feeds quiet
  where
    go : (now before feeds : Bool) → (before ≡ true → feeds ≡ false) →
        (if now || before then 0 else counted weights
        (map (λ x. is_bad x.signals)
        (if feeds then m ∷ filter (λ x. x.feeds) past else filter (λ x. x.feeds) past)))
        ≡ (if now then 0 else if feeds then fed weights
        (if before then 0 else counted weights (fed_bits is_bad past)) (is_bad m.signals) else
        (if before then 0 else counted weights (fed_bits is_bad past)))
    go true before feeds q = refl
    go false true true q = absurd (true≢false (q refl))
    go false true false q = refl
    go false false true q = counted-cons weights (is_bad m.signals) (fed_bits is_bad past) positive
    go false false false q = refl

-- a counter that was fed nothing is 0
counter_after-nil : (weights : WeightParts) (is_bad : Signals → Bool) → 0 ≡ counter_after weights is_bad []
unfolding counter_after mirror_found fed_bits
counter_after-nil weights is_bad = sym (counted-nil weights)

pub start_law : StartLaw
unfolding start signals_of last_signals no_signals limp_after mirror_found is_limited trip_after tripped
start_law s = record {
  signals = refl;
  pedal = counter_after-nil s.cal.rules.pair _;
  plate = counter_after-nil s.cal.rules.pair _;
  load = counter_after-nil s.cal.rules.pair _;
  speed = counter_after-nil s.cal.rules.pair _;
  torque = counter_after-nil s.cal.rules.torque _;
  limp = refl;
  trip = refl;
}

-- a counter is never past its limit
counter_after_within : (weights : WeightParts) (is_bad : Signals → Bool) (past : List Moment) (value : ℕ) →
    1 ≤ weights.limit → value ≡ counter_after weights is_bad past → value ≤ weights.limit
unfolding counter_after
counter_after_within weights is_bad past value positive e = rw e (go (mirror_found past))
  where
    go : (found : Bool) → (if found then 0 else counted weights (fed_bits is_bad past)) ≤ weights.limit
    go true = omega arith
    go false = counted_within weights (fed_bits is_bad past) positive

pub within_law : WithinLaw
within_law s accepted past w keeps = record {
  pedal = counter_after_within s.cal.rules.pair _ past _ accepted.pair.3 keeps.pedal;
  plate = counter_after_within s.cal.rules.pair _ past _ accepted.pair.3 keeps.plate;
  load = counter_after_within s.cal.rules.pair _ past _ accepted.pair.3 keeps.load;
  speed = counter_after_within s.cal.rules.pair _ past _ accepted.pair.3 keeps.speed;
  torque = counter_after_within s.cal.rules.torque _ past _ accepted.torque.3 keeps.torque;
}
