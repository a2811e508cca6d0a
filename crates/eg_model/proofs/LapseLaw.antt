-- The two laws of lapses.
use Rattle.std.proofs.Common.{◌≡◌, ℕ, zero, suc, ◌+◌, ◌-◌, ◌*◌, ◌≤◌, ◌<◌, true, false, not, List, [], ◌∷◌, ◌++◌, length, take, sym, ap, ◌∙◌, subst, arith, inl, inr, length-append, nat_lt}
use Rattle.std.specs.List.{count_by}
use Rattle.std.proofs.Math.Nat.{div-mul-le_self}
use Rattle.std.proofs.lemmas.Bool.{cases_lt, false≢true, cases_Bool, and_parts, le-ltb}
use Rattle.eg_num.specs.Arithmetic.{quotient_up}
use Rattle.eg_num.specs.Windows.{is_confirmed}
use Rattle.eg_torque.specs.Excess.{is_excess}
use Rattle.eg_answer.specs.Times.{feeds_to_confirm, periods_to_confirm, worth_of, rounds_to_confirm, lapse_periods, lapse_bound_of}
use Rattle.eg_values.specs.Calibration.{CalibrationParts, IsAccepted}
use Rattle.eg_values.specs.Excess.{BoundsLapses}
use Rattle.eg_record.specs.Excess.{true_excess}
use Rattle.eg_model.specs.History.{Setting, Tick, Drive, Moment}
use Rattle.eg_model.specs.Signals.{tripped}
use Rattle.eg_model.specs.Detection.{fed_bits, torque_bit}
use Rattle.eg_model.specs.Paths.{latch2, both_conduct}
use Rattle.eg_model.specs.Moments.{moment, moments_of}
use Rattle.eg_model.specs.Rows.{row_of, rows_of}
use Rattle.eg_model.specs.Premises.{AreProper, IsProper, Follows, is_on_after, true_excesses}
use Rattle.eg_model.specs.Lapses.{IsLapse, Exceeds, CutsStandingExcess, StretchesAreShort}
use Rattle.eg_model.proofs.TickLemmas.{stays, moment-exceeds, fields}
use Rattle.eg_model.proofs.TripLemmas.{trip_from_fed, exceeds, latch1_on, off_by_latch1}
use Rattle.eg_model.proofs.Silence.{wrongs, run_confirms, longer_run, opens_when_confirmed, off_by_latch2, period_least, send_within}
use Rattle.eg_model.proofs.ClassLemmas.{of_history}
use Rattle.eg_model.proofs.SpanRows.{end_of, follows-end, proper-end}
use Rattle.eg_model.proofs.LapseRuns.{AllOrNone, AllOrNoneEach, lapse_all_or_none, trip_opens, runs_in, AllExceed, low_without_ramp, runs_find}
use Rattle.eg_model.proofs.LapseAnswers.{is_good_mark, goods_in, Sent, sent_since, Judged, judged}
use Rattle.eg_model.proofs.LapseWeights.{all_of_fewer, count_of_fewer, rounded_up, confirms_few}

-- the premises of both laws
record Lapsing (s : Setting) : Type 0 where
  accepted : IsAccepted s.cal
  bounded : BoundsLapses s.cal
  lapse : IsLapse s.fault

-- how many ticks the whole periods of excess have that are cut
abbrev whole_ticks : Setting → ℕ
whole_ticks s = lapse_periods s.cal.rules.torque s.cal.times * s.cal.times.period

-- ---- whole periods of excess ----

-- what is told of a history that ends with them
record EndsWithPeriods (s : Setting) (h : List Tick) : Type 0 where
  lapsing : Lapsing s
  each : AllOrNoneEach h
  proper : AreProper s h
  periods : ℕ
  at : length h ≡ periods * s.cal.times.period
  exceed : Exceeds s (whole_ticks s) h

-- where no trip came the wrong verdicts confirm
module _ (s : Setting) (h : List Tick) (g : EndsWithPeriods s h)
    (untripped : tripped (moments_of s h) ≡ false) where
  abbrev period : ℕ
  period = s.cal.times.period

  abbrev send : ℕ
  send = s.cal.times.send

  abbrev runs : ℕ
  runs = feeds_to_confirm s.cal.rules.torque

  abbrev round : ℕ
  round = periods_to_confirm s.cal.rules.torque s.cal.times

  abbrev rounds : ℕ
  rounds = rounds_to_confirm s.cal.rules.torque s.cal.times

  abbrev past : List Moment
  past = moments_of s h

  -- the ticks after the first send tick of these periods
  abbrev counted : ℕ
  counted = (rounds * round + 1) * period - send - 1

  positive : 0 < period
  positive = period_least s.cal.times g.lapsing.accepted.times

  sends_within : send < period
  sends_within = send_within s.cal.times g.lapsing.accepted.times

  -- the periods before them
  abbrev earlier : ℕ
  earlier = g.periods - (rounds * round + 1)

  all_periods : g.periods ≡ earlier + (rounds * round + 1)
  unfolding lapse_periods
  all_periods = let f = fewer (rounds * round + 1) g.periods period positive
      (subst (λ n. (rounds * round + 1) * period ≤ n) g.at g.exceed.within) in omega arith
    where
      fewer : (a b p : ℕ) → 0 < p → a * p ≤ b * p → a ≤ b
      fewer a b p h l = grind arith

  placed : length h ≡ (earlier + (rounds * round + 1)) * period
  placed = g.at ∙ ap (λ n. n * period) all_periods

  -- fewer runs came than confirm
  few_runs : runs_in counted past < runs
  unfolding lapse_periods
  few_runs = elim (cases_lt (runs_in counted past) runs) [
    | inl less ↦ less
    | inr enough ↦ absurd (let e : false ≡ true = sym untripped ∙ trip_from_fed s h (confirmed enough) in
        cc)
  ]
    where
      weighs : s.cal.rules.torque.limit ≤ runs * s.cal.rules.torque.up
      weighs = unfold feeds_to_confirm in
          rounded_up s.cal.rules.torque.limit s.cal.rules.torque.up
          (let f = g.lapsing.accepted.torque.0 in omega arith)

      confirmed : runs ≤ runs_in counted past →
          is_confirmed s.cal.rules.torque (fed_bits torque_bit past) ≡ true
      confirmed enough =
          let all = all_of_fewer (λ b. b) counted ((rounds * round + 1) * period) (true_excesses s h)
          (omega arith) g.exceed.each in
          let found = runs_find s g.lapsing.accepted h (low_without_ramp s g.lapsing.bounded.no_ramp h) g.each g.proper counted all untripped in
          run_confirms s.cal.rules.torque runs (fed_bits torque_bit past)
          (let f = g.lapsing.accepted.torque.3 in omega arith) weighs
          (longer_run runs (runs_in counted past) (fed_bits torque_bit past) enough found)

  -- each good answer since the first send tick took a period of runs
  sent : Sent s.cal.times past (length h) counted
  sent = sent_since s g.lapsing.accepted.times h g.each earlier counted
      (after earlier (rounds * round) period send (length h) sends_within placed)
    where
      after : (p q period send t : ℕ) → send < period → t ≡ (p + (q + 1)) * period →
          t ≡ p * period + send + 1 + ((q + 1) * period - send - 1)
      after p q period send t l e = omega arith

  -- each right verdict of the rounds took a good answer
  seen : Judged past (rounds * round) 0 (rounds * round * period)
  seen =
      let place = from_first earlier (rounds * round) period (length h) placed in
      judged s g.lapsing.accepted.times h g.each (earlier + 1) (rounds * round) 0
      (rounds * round * period) place positive (omega arith)
    where
      from_first : (p q period t : ℕ) → t ≡ (p + (q + 1)) * period → t ≡ (p + 1 + q) * period + 0
      from_first p q period t e = omega arith

  unfoldable right : ℕ
  right = count_by not (take (rounds * round) (wrongs past))

  -- so fewer verdicts are right than a round has
  few_right : right < round
  unfolding periods_to_confirm goods_in right
  few_right = below period (goods_in counted past) runs round right good
      (let e = sent.enough in let f = few_runs in omega arith) (rounded_up runs period positive)
    where
      wide : (q period send : ℕ) → send < period → q * period ≤ (q + 1) * period - send - 1
      wide q period send l = omega arith

      good : right ≤ goods_in counted past
      good =
          let fewer = count_of_fewer (λ m. is_good_mark m.mark) (rounds * round * period) counted past
          (wide (rounds * round) period send sends_within) in
          let f = seen.few in
          omega arith

      below : (period good d k right : ℕ) → right ≤ good → period * good < d → d ≤ k * period → right < k
      below period good d k right f l m = grind arith

  verdicts_confirm : is_confirmed s.cal.times.weights (wrongs past) ≡ true
  unfolding rounds_to_confirm worth_of right
  verdicts_confirm =
      confirms_few s.cal.times.weights rounds round (wrongs past)
      (let f = g.lapsing.accepted.answers.3 in omega arith)
      (let f = seen.many in omega arith) g.lapsing.bounded.bound
      (rounded_up s.cal.times.weights.limit (worth_of s.cal.rules.torque s.cal.times)
      (let f = g.lapsing.bounded.bound in omega arith)) few_right

-- ---- and the stages stay off ----

off_after_periods : (s : Setting) (h more : List Tick) → EndsWithPeriods s h → (x : Tick) →
    AllOrNone x.effects → is_on_after s (more ++ h) x ≡ false
unfolding is_on_after latch2 moments_of
off_after_periods s h more g x one = elim (cases_Bool (tripped (moments_of s h))) [
  | inl u ↦ off_by_latch1 s x.effects x.entry (moments_of s (more ++ h)) (one.obeys 1)
      (latch1_on s more h (trip_opens s h g.each u))
  | inr u ↦ off_by_latch2 s x.effects x.entry (moments_of s (more ++ h)) (one.obeys 2) (stays _ s more h
      (opens_when_confirmed Drive s h (verdicts_confirm s h g u)))
]

pub lapsing_history : (s : Setting) → IsLapse s.fault → (start : ℕ) (h : List Tick) → Follows s.fault start h →
    AllOrNoneEach h
lapsing_history s lapse start h follows =
    of_history AllOrNone s.fault start h follows (λ t low high. lapse_all_or_none s.fault lapse t)

pub cuts_lapses : CutsStandingExcess
unfolding Follows
cuts_lapses s accepted bounded lapse start periods h at exceed more x follows proper after =
    off_after_periods s h more (record {
      lapsing = record { accepted = accepted; bounded = bounded; lapse = lapse };
      each = lapsing_history s lapse start h (follows-end s.fault start more h follows.1);
      proper = proper-end s more h proper;
      periods = periods;
      at = at;
      exceed = exceed;
    })
    x (subst AllOrNone (sym follows.0) (lapse_all_or_none s.fault lapse (start + length (more ++ h))))

-- ---- no stretch is longer ----

-- where the stages are off there is no excess
pub off_no_excess : (s : Setting) (x : Tick) (past : List Moment) → IsProper s (both_conduct x.effects past) x.entry →
    (moment s x.effects x.entry past).on ≡ false →
    exceeds s (moment s x.effects x.entry past) ≡ true → ⊥
unfolding is_excess
off_no_excess s x past proper off over =
    none _ _ _ (proper.no_torque (sym (fields s x.effects x.entry past).on ∙ off))
    (sym (moment-exceeds s x.effects x.entry past) ∙ over)
  where
    none : (limit threshold torque : ℕ) → torque ≡ 0 → nat_lt (limit + threshold) torque ≡ true → ⊥
    none limit threshold torque zero_torque h = false≢true (sym (le-ltb (limit + threshold) torque (omega arith)) ∙ h)

-- the stretch goes on behind the newest ticks
pub exceed_behind : (s : Setting) (more h : List Tick) (n k : ℕ) → n ≡ length more + k →
    AllExceed s n (more ++ h) → AllExceed s k h
unfolding true_excesses moments_of rows_of
exceed_behind s [] h n k e all = let same : n ≡ k = omega arith in subst (λ i. AllExceed s i h) same all
exceed_behind s (x ∷ more) h zero k e all = absurd (omega arith)
exceed_behind s (x ∷ more) h (suc n) k e all =
    exceed_behind s more h n k (omega arith) (and_parts _ _ all).1

-- a tick that comes next after whole periods of excess has none
none_after : (s : Setting) → Lapsing s → (start periods : ℕ) (x : Tick) (h : List Tick) →
    Follows s.fault start (x ∷ h) →
    AreProper s (x ∷ h) → length h ≡ periods * s.cal.times.period → whole_ticks s ≤ length h →
    AllExceed s (suc (whole_ticks s)) (x ∷ h) → ⊥
unfolding AreProper true_excesses moments_of rows_of row_of true_excess is_on_after
none_after s has start periods x h follows proper at fits all =
    let parts = and_parts _ _ all in
    let cut = cuts_lapses s has.accepted has.bounded has.lapse start periods h at
    (record { within = fits; each = parts.1 }) in
    off_no_excess s x (moments_of s h) proper.0 (cut [] x follows proper.1 (omega arith)) parts.0

-- so no stretch of n ticks holds whole periods and a tick after them
none_longer : (s : Setting) → Lapsing s → (start periods n : ℕ) (front back : List Tick) →
    Follows s.fault start (front ++ back) →
    AreProper s (front ++ back) → length back ≡ periods * s.cal.times.period + 1 →
    whole_ticks s ≤ periods * s.cal.times.period →
    length front + whole_ticks s + 1 ≤ n → AllExceed s n (front ++ back) → ⊥
none_longer s has start periods n front [] follows proper size fits long all = absurd (omega arith)
none_longer s has start periods n front (x ∷ h) follows proper size fits long all =
    let ticks = whole_ticks s in
    let behind = exceed_behind s front (x ∷ h) n (n - length front) (omega arith) all in
    none_after s has start periods x h (follows-end s.fault start front (x ∷ h) follows)
    (proper-end s front (x ∷ h) proper) (omega arith) (omega arith)
    (all_of_fewer (λ b. b) (suc ticks) (n - length front) (true_excesses s (x ∷ h)) (omega arith) behind)

-- Where a stretch begins at tick `from`, the first whole period in it begins within a period, and `whole` of
-- its periods end before the stretch does.
record Room (from whole period n : ℕ) : Type 0 where
  periods : ℕ
  begins : from ≤ (periods - whole) * period
  fits : whole * period ≤ periods * period
  sum : periods * period ≡ (periods - whole) * period + whole * period
  ends : periods * period < from + n

room : (from whole period n : ℕ) → 0 < period → (whole + 1) * period ≤ n → Room from whole period n
room from whole period n positive long = record {
  periods = first + whole;
  begins = rw back (rounded_up from period positive);
  fits = omega arith;
  sum = rw back (omega arith);
  ends = (let f = div-mul-le_self (from + (period - 1)) period in omega arith);
}
  where
    first : ℕ
    first = quotient_up from period

    back : first + whole - whole ≡ first
    back = omega arith

pub lapses_are_short : (s : Setting) → IsAccepted s.cal → BoundsLapses s.cal → IsLapse s.fault →
    (start : ℕ) (h : List Tick) → Follows s.fault start h → AreProper s h →
    (n : ℕ) → Exceeds s n h → n < lapse_bound_of s.cal.rules.torque s.cal.times
unfolding lapse_bound_of
lapses_are_short s accepted bounded lapse start h follows proper n exceed =
    elim (cases_lt n (lapse_bound_of s.cal.rules.torque s.cal.times)) [
      | inl less ↦ less
      | inr long ↦ absurd (too_long long)
    ]
  where
    too_long : lapse_bound_of s.cal.rules.torque s.cal.times ≤ n → ⊥
    too_long long =
        let r = room (length h - n) (lapse_periods s.cal.rules.torque s.cal.times) s.cal.times.period n
        (period_least s.cal.times accepted.times) long in
        let f = exceed.within in let b = r.begins in let e = r.ends in let sum = r.sum in
        let cut = end_of h (r.periods * s.cal.times.period + 1) (omega arith) in
        let sizes = ap length cut.whole ∙ length-append cut.more cut.rest in
        let size = cut.size in
        let has : Lapsing s = record { accepted = accepted; bounded = bounded; lapse = lapse } in
        none_longer s has start r.periods n cut.more cut.rest (rw cut.whole at follows)
        (rw cut.whole at proper) cut.size r.fits (omega arith)
        (rw cut.whole at exceed.each)

pub stretches_are_short : StretchesAreShort
stretches_are_short cal accepted bounded s is lapse start h follows proper n exceed =
    subst (λ (c : CalibrationParts). n < lapse_bound_of c.rules.torque c.times) is
    (lapses_are_short s (subst IsAccepted (sym is) accepted)
    (subst BoundsLapses (sym is) bounded)
    lapse start h follows proper n exceed)
