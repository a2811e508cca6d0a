-- Under lapses an answer at which a stretch of excess is as long as the runs that confirm it isn't good, so
-- where these runs fit into a period the stretch is soon over.
use Rattle.std.proofs.Common.{◌≡◌, ◌≢◌, ℕ, zero, suc, ◌+◌, ◌-◌, ◌*◌, ◌/◌, ◌%◌, ◌≤◌, ◌<◌, true, false, List, [], ◌∷◌, ◌++◌, length, refl, sym, ap, ap₂, ◌∙◌, subst, arith, inl, inr, length-append}
use Rattle.std.specs.Prelude.{if◌then◌else◌, ◌==◌}
use Rattle.std.proofs.lemmas.Bool.{cases_lt, true≢false, cases_Bool, ne_eqb, and_parts}
use Rattle.eg_num.specs.Arithmetic.{quotient_up}
use Rattle.eg_torque.specs.declared.ramp.TheConstants.{NO_RAMP}
use Rattle.eg_answer.specs.Times.{TimeParts, feeds_to_confirm, reaction_of, periods_to_confirm, worth_of, rounds_to_confirm, lapse_periods}
use Rattle.eg_answer.specs.declared.marks.AnswerMark.TheVariants.{Absent, Good}
use Rattle.eg_values.specs.Calibration.{CalibrationParts, IsAccepted}
use Rattle.eg_fault.specs.declared.paths.TheConstants.{PATH_2}
use Rattle.eg_model.specs.History.{Setting, Tick, Moment}
use Rattle.eg_model.specs.Signals.{tripped}
use Rattle.eg_model.specs.Detection.{fed_bits, torque_bit}
use Rattle.eg_model.specs.Answers.{whole_since_answer, mark_at}
use Rattle.eg_model.specs.Moments.{moment, moments_of}
use Rattle.eg_model.specs.Rows.{row_of, rows_of}
use Rattle.eg_record.specs.Excess.{true_excess}
use Rattle.eg_model.specs.Premises.{AreProper, Follows, is_on_after, true_excesses}
use Rattle.eg_model.specs.Lapses.{IsLapse, Exceeds}
use Rattle.eg_laws.specs.LeastLapse.{RunsFit, least_lapse_bound, StretchesAreShorter, NoneStandsSoLong}
use Rattle.eg_model.proofs.TickLemmas.{Each, Each-map, length-moments, untripped_before, fields}
use Rattle.eg_model.proofs.TripLemmas.{trip_from_fed, off_by_latch1}
use Rattle.eg_model.proofs.PeriodLemmas.{quotient}
use Rattle.eg_model.proofs.Silence.{AreRegular, TrueRun, NoGood, send_within, sent_at_place, run_confirms, off_after_silence}
use Rattle.eg_model.proofs.LapseRuns.{AllOrNone, AllOrNoneEach, lapse_all_or_none, trip_opens, runs_in, runs_in-cons, AllExceed, low_without_ramp, runs_find}
use Rattle.eg_model.proofs.LapseAnswers.{is_good_mark, absent_off_place, whole_before, whole_where_good}
use Rattle.eg_model.proofs.LapseWeights.{all_of_fewer, rounded_up}
use Rattle.eg_model.proofs.LapseLaw.{exceed_behind, off_no_excess, lapsing_history}
use Rattle.eg_model.proofs.SpanRows.{EndOf, end_of}
use Rattle.eg_laws.proofs.FewVerdicts.{quotient_positive}

-- fewer than a period before a send tick none is
not_again : (times : TimeParts) (t i : ℕ) → t % times.period ≡ times.send → i < t → t < i + times.period →
    (i % times.period == times.send) ≡ false
not_again times t i at before near = ne_eqb (i % times.period) times.send
    (λ same. apart (t / times.period) (i / times.period) times.period times.send t i (omega arith) (omega arith) before near)
  where
    apart : (q k period send t i : ℕ) → t ≡ q * period + send → i ≡ k * period + send → i < t → t < i + period → ⊥
    apart q k period send t i e f before near =
        more q k period (less q k period (omega arith)) (omega arith)
      where
        less : (q k period : ℕ) → k * period < q * period → k < q
        less q k period l = grind arith

        next : (q k period : ℕ) → k + 1 ≤ q → (k + 1) * period ≤ q * period
        next q k period l = grind arith

        more : (q k period : ℕ) → k < q → q * period < k * period + period → ⊥
        more q k period l m = let n = next q k period (omega arith) in omega arith

-- where all modules ran since the last answer, they ran at each tick since the last send tick
all_ran : (s : Setting) (h : List Tick) → AreRegular h → (k : ℕ) → k ≤ length h →
    ((i : ℕ) → length h ≤ i + k → i < length h → (i % s.cal.times.period == s.cal.times.send) ≡ false) →
    whole_since_answer (moments_of s h) ≡ true → runs_in k (moments_of s h) ≡ k
unfolding Each moments_of
all_ran s h regular zero within off whole = unfold runs_in in refl
all_ran s [] regular (suc k) within off whole = absurd (omega arith)
all_ran s (x ∷ h) regular (suc k) within off whole =
    runs_in-cons k m past
    ∙ ap (λ b. if b then suc (runs_in k past) else runs_in k past) both.0
    ∙ ap suc (all_ran s h regular.1 k (omega arith) (λ i low high. off i (omega arith) (omega arith)) both.1)
  where
    past : List Moment
    past = moments_of s h

    m : Moment
    m = moment s x.effects x.entry past

    absent : m.mark ≡ Absent
    absent = (fields s x.effects x.entry past).mark
        ∙ absent_off_place s.cal.times x.effects m.trip past regular.0
        (ap (λ n. n % s.cal.times.period == s.cal.times.send) (length-moments s h) ∙ off (length h) (omega arith) (omega arith))

    both : (m.whole ≡ true) × (whole_since_answer past ≡ true)
    both = whole_before m past absent whole

-- ---- a stretch as long as the runs that confirm it ----

module _ (s : Setting) (accepted : IsAccepted s.cal) (no_ramp : s.cal.rules.fall ≡ NO_RAMP) (fit : RunsFit s.cal) where
  abbrev many : ℕ
  many = feeds_to_confirm s.cal.rules.torque

  -- where level 2 ran at `many` ticks of it a trip has come
  trip_from_runs : (h : List Tick) → AllOrNoneEach h → AreProper s h → AllExceed s many h →
      runs_in many (moments_of s h) ≡ many → tripped (moments_of s h) ≡ true
  trip_from_runs h each proper exceed ran = elim (cases_Bool (tripped (moments_of s h))) [
    | inl u ↦ u
    | inr u ↦ trip_from_fed s h
        (run_confirms s.cal.rules.torque many (fed_bits torque_bit (moments_of s h))
        (let f = accepted.torque.3 in omega arith)
        (unfold feeds_to_confirm in rounded_up s.cal.rules.torque.limit s.cal.rules.torque.up (let f = accepted.torque.0 in omega arith))
        (subst (λ n. TrueRun n (fed_bits torque_bit (moments_of s h))) ran
        (runs_find s accepted h (low_without_ramp s no_ramp h) each proper many exceed u)))
  ]

  -- so an answer there isn't good
  not_good : (x : Tick) (h : List Tick) → AllOrNoneEach (x ∷ h) → AreProper s (x ∷ h) → AllExceed s many (x ∷ h) →
      0 < many → many ≤ suc (length h) → tripped (moments_of s (x ∷ h)) ≡ false →
      (moment s x.effects x.entry (moments_of s h)).mark ≢ Good
  unfolding Each moments_of
  not_good x h each proper exceed some within untripped good = absurd
      (let trip : tripped (moments_of s (x ∷ h)) ≡ true = trip_from_runs (x ∷ h) each proper exceed ran in
      true≢false (sym trip ∙ untripped))
    where
      past : List Moment
      past = moments_of s h

      m : Moment
      m = moment s x.effects x.entry past

      marked : mark_at s.cal.times x.effects m.trip past ≡ Good
      marked = sym (fields s x.effects x.entry past).mark ∙ good

      place : length h % s.cal.times.period ≡ s.cal.times.send
      place = ap (λ n. n % s.cal.times.period) (sym (length-moments s h))
          ∙ sent_at_place s.cal.times x.effects m.trip past each.0.regular
          (λ absent. let both : Good ≡ Absent = sym marked ∙ absent in cc)

      whole : (m.whole ≡ true) × (whole_since_answer past ≡ true)
      whole = (let both = whole_where_good s.cal.times x.effects m.trip past (unfold is_good_mark in ap is_good_mark marked) in
          ((fields s x.effects x.entry past).whole ∙ both.0, both.1))

      go : (k : ℕ) → k ≡ many → 0 < k → runs_in k (m ∷ past) ≡ k
      go zero is none = absurd (omega arith)
      go (suc k) is none = runs_in-cons k m past
          ∙ ap (λ b. if b then suc (runs_in k past) else runs_in k past) whole.0
          ∙ ap suc (all_ran s h (Each-map (λ y one. one.regular) h each.1) k (omega arith)
          (λ i low high. not_again s.cal.times (length h) i place high (let f = fit in omega arith)) whole.1)

      ran : runs_in many (m ∷ past) ≡ many
      ran = go many refl some

  -- from the tick at which `many` ticks of excess have passed no answer is good
  silence : (front back : List Tick) → AllOrNoneEach (front ++ back) → AreProper s (front ++ back) → 0 < many →
      many ≤ length back + 1 →
      AllExceed s (length front + (many - 1)) (front ++ back) → tripped (moments_of s (front ++ back)) ≡ false →
      NoGood s front back
  unfolding NoGood Each AreProper moments_of true_excesses rows_of
  silence [] back each proper some within exceed untripped = tt
  silence (x ∷ front) back each proper some within exceed untripped = (
    not_good x (front ++ back) each proper
        (all_of_fewer (λ b. b) many (length (x ∷ front) + (many - 1)) (true_excesses s (x ∷ front ++ back)) (omega arith) exceed) some
        (let size = length-append front back in omega arith) untripped,
    silence front back each.1 proper.1 some within
        (exceed_behind s (x ∷ []) (front ++ back) (length (x ∷ front) + (many - 1)) (length front + (many - 1)) (omega arith) exceed)
        (untripped_before _ (moments_of s (front ++ back)) untripped),
  )

  off_by_then : (x : Tick) (front back : List Tick) → AllOrNone x.effects → AllOrNoneEach (front ++ back) →
      AreProper s (front ++ back) → 0 < many → many ≤ length back + 1 →
      AllExceed s (length front + (many - 1)) (front ++ back) → reaction_of s.cal.times ≤ length front →
      is_on_after s (front ++ back) x ≡ false
  off_by_then x front back one each proper some within exceed long = elim (cases_Bool (tripped (moments_of s (front ++ back)))) [
    | inl u ↦ (unfold is_on_after in
        off_by_latch1 s x.effects x.entry (moments_of s (front ++ back)) (one.obeys 1) (trip_opens s (front ++ back) each u))
    | inr u ↦ off_after_silence s accepted.times (let a = accepted.answers.0 in omega arith)
        (let a = accepted.answers.3 in omega arith) front back
        (Each-map (λ y one. one.regular) (front ++ back) each)
        (silence front back each proper some within exceed u) long x (one.obeys PATH_2)
  ]

-- ---- the law ----

pub runs_positive : (s : Setting) → IsAccepted s.cal → 0 < feeds_to_confirm s.cal.rules.torque
unfolding feeds_to_confirm
runs_positive s accepted = quotient_positive s.cal.rules.torque.limit s.cal.rules.torque.up
    (let a = accepted.torque.3 in omega arith) (let a = accepted.torque.0 in omega arith)

bound_is : (cal : CalibrationParts) → least_lapse_bound cal ≡ reaction_of cal.times + feeds_to_confirm cal.rules.torque
unfolding least_lapse_bound
bound_is cal = omega arith

too_long : (s : Setting) → IsAccepted s.cal → s.cal.rules.fall ≡ NO_RAMP → RunsFit s.cal → IsLapse s.fault →
    (start : ℕ) (h : List Tick) → Follows s.fault start h → AreProper s h → (m : ℕ) → Exceeds s m h →
    least_lapse_bound s.cal ≤ m → ⊥
unfolding Follows AreProper true_excesses moments_of rows_of row_of true_excess is_on_after
too_long s accepted no_ramp fit lapse start [] follows proper m exceed long =
    absurd (let w = exceed.within in let some = runs_positive s accepted in let b = bound_is s.cal in omega arith)
too_long s accepted no_ramp fit lapse start (x ∷ h) follows proper m exceed long =
    off_no_excess s x (moments_of s h) proper.0 off (and_parts _ _ now).0
  where
    some : 0 < feeds_to_confirm s.cal.rules.torque
    some = runs_positive s accepted

    bound : least_lapse_bound s.cal ≡ reaction_of s.cal.times + feeds_to_confirm s.cal.rules.torque
    bound = bound_is s.cal

    now : AllExceed s (suc (least_lapse_bound s.cal - 1)) (x ∷ h)
    now = all_of_fewer (λ b. b) (suc (least_lapse_bound s.cal - 1)) m (true_excesses s (x ∷ h)) (let b = bound in let l = long in let p = some in omega arith) exceed.each

    cut : EndOf h (length h - reaction_of s.cal.times)
    cut = end_of h (length h - reaction_of s.cal.times) (omega arith)

    sizes : length cut.more + length cut.rest ≡ length h
    sizes = sym (ap length cut.whole ∙ length-append cut.more cut.rest)

    long_front : least_lapse_bound s.cal - 1 ≡ length cut.more + (feeds_to_confirm s.cal.rules.torque - 1)
    long_front = let w = exceed.within in let c = cut.size in let z = sizes in let b = bound in let l = long in
        let p = some in omega arith

    behind : AllExceed s (length cut.more + (feeds_to_confirm s.cal.rules.torque - 1)) h
    behind = exceed_behind s (x ∷ []) h (suc (least_lapse_bound s.cal - 1))
        (length cut.more + (feeds_to_confirm s.cal.rules.torque - 1)) (let e = long_front in omega arith) now

    each : AllOrNoneEach (cut.more ++ cut.rest)
    each = rw cut.whole at (lapsing_history s lapse start h follows.1)

    off : (moment s x.effects x.entry (moments_of s h)).on ≡ false
    off = subst (λ l. (moment s x.effects x.entry (moments_of s l)).on ≡ false) (sym cut.whole)
        (off_by_then s accepted no_ramp fit x cut.more cut.rest
        (subst AllOrNone (sym follows.0) (lapse_all_or_none s.fault lapse (start + length h))) each
        (rw cut.whole at proper.1) some (let w = exceed.within in let c = cut.size in let b = bound in let l = long in let p = some in omega arith)
        (subst (AllExceed s (length cut.more + (feeds_to_confirm s.cal.rules.torque - 1))) cut.whole behind)
        (let w = exceed.within in let c = cut.size in let z = sizes in let b = bound in let l = long in let p = some in omega arith))

pub stretches_are_shorter : StretchesAreShorter
stretches_are_shorter cal accepted no_ramp fit s is lapse start h follows proper m exceed =
    elim (cases_lt m (least_lapse_bound cal)) [
      | inl less ↦ omega (arith, less)
      | inr long ↦ absurd (too_long s (subst IsAccepted (sym is) accepted)
          (subst (λ (c : CalibrationParts). c.rules.fall ≡ NO_RAMP) (sym is) no_ramp) (subst RunsFit (sym is) fit)
          lapse start h follows proper m exceed
          (subst (λ c. least_lapse_bound c ≤ m) (sym is) long))
    ]

-- ---- where the runs that confirm come to an end with a send tick ----

one_period : (n p : ℕ) → 0 < n → n ≤ p → quotient_up n p ≡ 1
one_period n p some l = quotient p 1 (n - 1) (n + (p - 1)) (omega (arith, some, l)) (omega (arith, some, l))

-- the whole periods are then as long as the least bound, or longer
whole_periods : (cal : CalibrationParts) → IsAccepted cal → feeds_to_confirm cal.rules.torque ≤ cal.times.send + 1 → RunsFit cal →
    least_lapse_bound cal ≤ lapse_periods cal.rules.torque cal.times * cal.times.period
unfolding least_lapse_bound reaction_of
whole_periods cal accepted few fit = long (feeds_to_confirm cal.times.weights) cal.times.period cal.times.send
    (feeds_to_confirm cal.rules.torque) (lapse_periods cal.rules.torque cal.times) periods (send_within cal.times accepted.times) few
  where
    one : periods_to_confirm cal.rules.torque cal.times ≡ 1
    one = unfold periods_to_confirm in one_period (feeds_to_confirm cal.rules.torque) cal.times.period
        (unfold feeds_to_confirm in quotient_positive cal.rules.torque.limit cal.rules.torque.up
        (let a = accepted.torque.3 in omega arith) (let a = accepted.torque.0 in omega arith)) fit

    up : ℕ
    up = cal.times.weights.up

    down : ℕ
    down = cal.times.weights.down

    rounds : rounds_to_confirm cal.rules.torque cal.times ≡ feeds_to_confirm cal.times.weights
    rounds = unfold rounds_to_confirm worth_of feeds_to_confirm in
        ap (λ c. quotient_up cal.times.weights.limit (up - (c - 1) * down)) one ∙ ap (quotient_up cal.times.weights.limit) whole
      where
        whole : up - (1 - 1) * down ≡ up
        whole = omega arith

    periods : lapse_periods cal.rules.torque cal.times ≡ feeds_to_confirm cal.times.weights * 1 + 1
    periods = unfold lapse_periods in ap₂ (λ r c. r * c + 1) rounds one

    long : (n p send d l : ℕ) → l ≡ n * 1 + 1 → send < p → d ≤ send + 1 → (n + 1) * p - send - 1 + d ≤ l * p
    long n p send d l is inside few =
        let same : l * p ≡ (n + 1) * p = ap (λ k. k * p) (omega (arith, is)) in
        let least : p ≤ (n + 1) * p = grind arith in
        omega (arith, same, least, inside, few)

pub none_stands_so_long : NoneStandsSoLong
none_stands_so_long cal accepted no_ramp few s is lapse start h follows proper m exceed =
    omega (
      arith,
      stretches_are_shorter cal accepted no_ramp fit s is lapse start h follows proper m exceed,
      whole_periods cal accepted few fit,
    )
  where
    fit : RunsFit cal
    fit = let inside = send_within cal.times accepted.times in omega (arith, inside, few)
