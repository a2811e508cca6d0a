-- Where one wrong verdict confirms, the first tick that level 2 misses in a span is cut soon, whatever the torque.
use Rattle.std.proofs.Common.{inl, inr, ◌≡◌, ◌≢◌, ℕ, ◌+◌, ◌-◌, ◌*◌, ◌/◌, ◌%◌, ◌≤◌, ◌<◌, true, ◌||◌, List, [], ◌∷◌, ◌++◌, length, length-append, sym, ap, ◌∙◌, subst, arith}
use Rattle.std.proofs.lemmas.Bool.{cases_lt}
use Rattle.std.proofs.lemmas.Nat.{div-mul-add}
use Rattle.eg_num.specs.Windows.{is_confirmed}
use Rattle.eg_answer.specs.Times.{TimeParts, AreTimes, feeds_to_confirm, reaction_of}
use Rattle.eg_answer.specs.declared.marks.AnswerMark.TheVariants.{Absent, Good}
use Rattle.eg_values.specs.Calibration.{IsAccepted}
use Rattle.eg_fault.specs.Classes.{IsRegular}
use Rattle.eg_model.specs.History.{Setting, Tick, Drive, Moment}
use Rattle.eg_model.specs.Answers.{is_whole, whole_since_answer, mark_at}
use Rattle.eg_model.specs.Paths.{latch2}
use Rattle.eg_model.specs.Moments.{moment, moments_of}
use Rattle.eg_model.specs.Premises.{Follows}
use Rattle.eg_model.specs.Lapses.{IsLapse}
use Rattle.eg_laws.specs.Availability.{misses_tick}
use Rattle.eg_model.proofs.TickLemmas.{stays, length-moments, fields}
use Rattle.eg_model.proofs.ClassLemmas.{of_history}
use Rattle.eg_model.proofs.PeriodLemmas.{counts_from}
use Rattle.eg_model.proofs.Silence.{NoGood, TrueRun, closed, wrongs, wrong_run, run_confirms, enough_weight, opens_when_confirmed, sent_at_place, period_least, send_within}
use Rattle.eg_model.proofs.LapseAnswers.{is_good_mark, whole_where_good}
use Rattle.eg_model.proofs.SpanRows.{EndOf, end_of, follows-end}
use Rattle.eg_laws.proofs.MissedTickLaws.{lapse_regular, apart, not_whole, stale}

scaled : (a b p : ℕ) → a ≤ b → a * p ≤ b * p
scaled a b p l = grind arith

-- the first period whose send tick comes at tick t or later
next_period : TimeParts → ℕ → ℕ
next_period times t = (t + times.period - 1 - times.send) / times.period

sends_soon : (times : TimeParts) → AreTimes times → (t : ℕ) → next_period times t * times.period + times.send < t + times.period
unfolding next_period
sends_soon times are t =
    let some = period_least times are in let inside = send_within times are in
    law (t + times.period - 1 - times.send) times.period some inside (omega (arith, some, inside))
  where
    law : (n p : ℕ) → 0 < p → times.send < p → n + times.send + 1 ≡ t + p → (n / p) * p + times.send < t + p
    law n p some inside e = omega (arith, some, inside, e)

-- a send tick before that period ends comes at its send tick at the latest
send_within_period : (k t period send : ℕ) → 0 < period → t % period ≡ send → t < (k + 1) * period → t ≤ k * period + send
send_within_period k t period send some place early =
    let at : t ≡ (t / period) * period + send = omega (arith, some, place) in
    let few = less (t / period) (k + 1) (omega (arith, at, early)) in
    let most = scaled (t / period) k period (omega (arith, few)) in
    omega (arith, at, most)
  where
    less : (a b : ℕ) → a * period < b * period → a < b
    less a b l = elim (cases_lt a b) [
      | inl fewer ↦ fewer
      | inr more ↦ absurd (let m = scaled b a period more in omega (arith, m, l))
    ]

module _ (s : Setting) (accepted : IsAccepted s.cal) (lapse : IsLapse s.fault) (start first : ℕ) (from : start ≤ first)
    (out : misses_tick s.fault first ≡ true) where
  abbrev period : ℕ
  period = s.cal.times.period

  abbrev base : ℕ
  base = first - start

  abbrev last : ℕ
  last = next_period s.cal.times base

  some : 0 < period
  some = period_least s.cal.times accepted.times

  -- no answer of the period in which the next one is due is good
  not_good : (x : Tick) (h : List Tick) → Follows s.fault start (x ∷ h) → base ≤ length h → length h < (last + 1) * period →
      (moment s x.effects x.entry (moments_of s h)).mark ≢ Good
  unfolding Follows is_good_mark
  not_good x h follows late soon good = elim (cases_lt first (start + length h)) [
    | inl earlier ↦ stale s accepted lapse start h follows.1 first from earlier out unsent parts.1
    | inr now ↦ not_whole s accepted lapse start x (start + length h) follows.0
        (subst (λ t. misses_tick s.fault t ≡ true) (omega (arith, now, late, from)) out) parts.0
  ]
    where
      past : List Moment
      past = moments_of s h

      m : Moment
      m = moment s x.effects x.entry past

      mark_is : mark_at s.cal.times x.effects m.trip past ≡ Good
      mark_is = sym (fields s x.effects x.entry past).mark ∙ good

      parts : (is_whole x.effects ≡ true) × (whole_since_answer past ≡ true)
      parts = whole_where_good s.cal.times x.effects m.trip past (ap is_good_mark mark_is)

      place : length h % period ≡ s.cal.times.send
      place = ap (λ k. k % period) (sym (length-moments s h)) ∙ sent_at_place s.cal.times x.effects m.trip past
          (subst IsRegular (sym follows.0) (lapse_regular s.fault lapse (start + length h)))
          (λ absent. let both : Absent ≡ Good = sym absent ∙ mark_is in cc)

      unsent : (t : ℕ) → first ≤ start + t → t < length h → t % period ≢ s.cal.times.send
      unsent t low less same =
          let far = apart period t (length h) some (same ∙ sym place) less in
          let most = send_within_period last (length h) period s.cal.times.send some place soon in
          let near = sends_soon s.cal.times accepted.times base in
          omega (arith, far, low, most, near, from)

  none_good : (more before : List Tick) → Follows s.fault start (more ++ before) → base ≤ length before →
      length (more ++ before) ≤ (last + 1) * period → NoGood s more before
  unfolding Follows NoGood
  none_good [] before follows late soon = tt
  none_good (x ∷ more) before follows late soon = (
    not_good x (more ++ before) (unfold Follows in follows)
        (let sum = length-append more before in omega (arith, sum, late)) (omega (arith, soon)),
    none_good more before follows.1 late (omega (arith, soon)),
  )

  -- where one wrong verdict confirms, path 2 has been ordered open once R ticks have passed since that tick
  module _ (single : feeds_to_confirm s.cal.times.weights ≡ 1) where
    reaction_is : reaction_of s.cal.times + s.cal.times.send + 1 ≡ 2 * period
    unfolding reaction_of
    reaction_is = law (feeds_to_confirm s.cal.times.weights) s.cal.times.period s.cal.times.send single (send_within s.cal.times accepted.times)
      where
        law : (n p send : ℕ) → n ≡ 1 → send < p → (n + 1) * p - send - 1 + send + 1 ≡ 2 * p
        law n p send e l = rw e (omega (arith, l))

    confirmed : (mid before : List Tick) → Follows s.fault start (mid ++ before) → length before ≡ base →
        length (mid ++ before) ≡ (last + 1) * period → is_confirmed s.cal.times.weights (wrongs (moments_of s (mid ++ before))) ≡ true
    unfolding closed next_period
    confirmed mid before follows low high = run_confirms s.cal.times.weights 1 (wrongs (moments_of s (mid ++ before)))
        (let a = accepted.answers.3 in omega (arith, a))
        (subst (λ n. s.cal.times.weights.limit ≤ n * s.cal.times.weights.up) single
        (enough_weight s.cal.times.weights (let a = accepted.answers.0 in omega (arith, a))))
        (subst (λ n. TrueRun n (wrongs (moments_of s (mid ++ before)))) one
        (wrong_run s accepted.times mid before
        (of_history IsRegular s.fault start (mid ++ before) follows (λ t l u. lapse_regular s.fault lapse t))
        (none_good mid before follows (omega (arith, low)) (omega (arith, high)))))
      where
        one : closed s.cal.times (length before) (length (mid ++ before)) ≡ 1
        one = counts (length before) (length (mid ++ before)) low high
          where
            counts : (b t : ℕ) → b ≡ base → t ≡ (last + 1) * period →
                t / period - (b + period - 1 - s.cal.times.send) / period ≡ 1
            counts b t e f = ap (λ n. t / period - (n + period - 1 - s.cal.times.send) / period) e
                ∙ (let q : t / period ≡ last + 1 = ap (λ n. n / period) (f ∙ (let z : (last + 1) * period ≡ (last + 1) * period + 0 = omega arith in z))
                ∙ div-mul-add (last + 1) period 0 some in omega (arith, q))

    pub latched : (h : List Tick) → Follows s.fault start h → first + reaction_of s.cal.times ≤ start + length h →
        latch2 (moments_of s h) ≡ true
    unfolding moments_of latch2 next_period
    latched h follows late = subst (λ g. latch2 (moments_of s g) ≡ true) (sym cut.whole)
        (stays (λ m. m.confirms || m.opens) s cut.more cut.rest (subst (λ g. latch2 (moments_of s g) ≡ true) (sym part.whole)
        (opens_when_confirmed Drive s (part.more ++ part.rest) (confirmed part.more part.rest
        (subst (Follows s.fault start) part.whole (follows-end s.fault start cut.more cut.rest (subst (Follows s.fault start) cut.whole follows)))
        part.size (sym (ap length part.whole) ∙ cut.size)))))
      where
        soon : (last + 1) * period ≤ length h
        soon = let near = sends_soon s.cal.times accepted.times base in let r = reaction_is in omega (arith, near, r, late, from)

        cut : EndOf h ((last + 1) * period)
        cut = end_of h ((last + 1) * period) soon

        part : EndOf cut.rest base
        part = end_of cut.rest base (let size = cut.size in let l = reaches in omega (arith, size, l))
          where
            reaches : base ≤ (last + 1) * period
            reaches =
                let low = counts_from period s.cal.times.send base last some (send_within s.cal.times accepted.times) (omega arith) in
                let inside = send_within s.cal.times accepted.times in omega (arith, low, inside)
