-- A lapse that leaves out the send tick of one in so many periods: the verdict of such a period and that of the next one
-- are wrong, so that the counter rises in each round.
use Rattle.std.proofs.Common.{inl, inr, ◌≡◌, ◌≢◌, ℕ, zero, suc, ◌+◌, ◌-◌, ◌*◌, ◌/◌, ◌%◌, ◌≤◌, ◌<◌, Bool, true, false, not, ◌||◌, List, [], ◌∷◌, ◌++◌, length, length-append, take, None, refl, sym, ap, ◌∙◌, subst, arith}
use Rattle.std.specs.Prelude.{if◌then◌else◌, ◌==◌}
use Rattle.std.proofs.lemmas.Nat.{mod-mul-add, div-mul-add}
use Rattle.std.proofs.lemmas.Bool.{cases_lt, ne_eqb, and_left, and_right, true≢false}
use Rattle.eg_num.specs.Windows.{WeightParts, greatest, is_confirmed}
use Rattle.eg_num.proofs.CounterLemmas.{greatest-bad, greatest-good}
use Rattle.eg_answer.specs.Times.{TimeParts}
use Rattle.eg_answer.specs.Periods.{verdict_of, is_wrong, MarkedAnswer}
use Rattle.eg_answer.specs.declared.marks.AnswerMark.TheVariants.{Absent, Good, Bad}
use Rattle.eg_answer.specs.declared.modules.TheConstants.{REACT}
use Rattle.eg_values.specs.Calibration.{CalibrationParts, IsAccepted}
use Rattle.eg_fault.specs.Effects.{no_effects, sends_at}
use Rattle.eg_fault.specs.Faults.{is_left_out, effects_of, effects}
use Rattle.eg_fault.specs.Classes.{IsRegular}
use Rattle.eg_fault.specs.declared.class.Class.TheVariants.{Lapse}
use Rattle.eg_fault.specs.declared.class.Fault.{Fault}
use Rattle.eg_fault.proofs.ActingLemmas.{from_onset}
use Rattle.eg_model.specs.History.{Setting, Tick, Moment}
use Rattle.eg_model.specs.Signals.{tripped}
use Rattle.eg_model.specs.Answers.{is_sent, is_good, is_whole, mark_at, whole_since_answer, with_answer, answers_in}
use Rattle.eg_model.specs.Moments.{moment, moments_of}
use Rattle.eg_model.specs.Premises.{Follows}
use Rattle.eg_model.specs.Lapses.{IsLapse}
use Rattle.eg_model.proofs.TickLemmas.{length-moments, fields}
use Rattle.eg_model.proofs.ClassLemmas.{of_history}
use Rattle.eg_model.proofs.Silence.{NoGood, TrueRun, closed, wrongs, with_wrong, wrongs-cons, verdict_none, verdict_some, wrong_run, reached_confirms, sent_at_place, period_least, send_within}
use Rattle.eg_model.proofs.LapseAnswers.{is_good_mark, whole_where_good, whole_before, absent_off_place}
use Rattle.eg_model.proofs.SpanRows.{EndOf, end_of}
use Rattle.eg_laws.specs.CloserMisses.{sends_missed}
use Rattle.eg_laws.proofs.MissTicks.{missed, missed_not_whole}
use Rattle.eg_laws.proofs.MissedTickLaws.{lapse_regular, apart}

pub scaled : (a b p : ℕ) → a ≤ b → a * p ≤ b * p
scaled a b p l = grind arith

react_out : missed.ran REACT ≡ false
unfolding missed no_effects
react_out = refl

-- no answer is sent at a tick that level 2 misses
missed_absent : (times : TimeParts) (trip : Bool) (past : List Moment) → mark_at times missed trip past ≡ Absent
unfolding mark_at is_sent
missed_absent times trip past = ap (λ sent. if sent then (if is_good missed past then Good else Bad) else Absent)
    (and_left _ (not (trip || tripped past)) (and_right (sends_at missed times (length past)) _ react_out))

missed_part : is_whole missed ≡ true → ⊥
missed_part whole = true≢false (sym whole ∙ missed_not_whole)

-- ---- the counter ----

-- After j rounds of k + 2 verdicts, each of which adds `gain` at least, and i verdicts of the next round, of which the
-- first two are wrong, it stands so high.
unfoldable Counts : (w : WeightParts) (gain j i g : ℕ) → Type 0
Counts w gain j zero g = j * gain ≤ g
Counts w gain j (suc zero) g = j * gain + w.up ≤ g
Counts w gain j (suc (suc i)) g = j * gain + 2 * w.up ≤ g + i * w.down

module _ (w : WeightParts) (gain k : ℕ) (paid : gain + k * w.down ≤ 2 * w.up) where
  counts_on : (j i g g' : ℕ) → (i < 2 → g' ≡ g + w.up) → g ≤ g' + w.down → Counts w gain j i g → Counts w gain j (suc i) g'
  unfolding Counts
  counts_on j zero g g' wrong low c = let e = wrong (omega arith) in omega (arith, e, c)
  counts_on j (suc zero) g g' wrong low c = let e = wrong (omega arith) in omega (arith, e, c)
  counts_on j (suc (suc i)) g g' wrong low c = omega (arith, low, c)

  round : (j g : ℕ) → Counts w gain j (suc (suc k)) g → Counts w gain (suc j) 0 g
  unfolding Counts
  round j g c = omega (arith, c, paid)

  counts_least : (j i g : ℕ) → i < suc (suc k) → Counts w gain j i g → j * gain ≤ g
  unfolding Counts
  counts_least j zero g l c = c
  counts_least j (suc zero) g l c = omega (arith, c)
  counts_least j (suc (suc i)) g l c = let s = scaled i k w.down (omega (arith, l)) in omega (arith, c, s, paid)

counts_one : (w : WeightParts) (b : Bool) (bits : List Bool) → greatest w bits ≤ greatest w (b ∷ bits) + w.down
counts_one w true bits = let e = greatest-bad w bits in omega (arith, e)
counts_one w false bits = let e = greatest-good w bits in omega (arith, e)

module _ (cal : CalibrationParts) (accepted : IsAccepted cal) (k : ℕ) where
  abbrev m : ℕ
  m = suc (suc k)

  abbrev s : Setting
  s = sends_missed cal m

  abbrev period : ℕ
  period = cal.times.period

  abbrev turn : ℕ
  turn = m * period

  abbrev the_fault : Fault
  the_fault = record { onset = cal.times.send; class = Lapse (0 ∷ []) turn }

  some : 0 < period
  some = period_least cal.times accepted.times

  inside : cal.times.send < period
  inside = send_within cal.times accepted.times

  pub lapse : IsLapse s.fault
  lapse = record { onset = cal.times.send; after = 0 ∷ []; every = turn; is = refl }

  pub turn_some : 0 < turn
  turn_some = positive period some
    where
      positive : (p : ℕ) → 0 < p → 0 < suc (suc k) * p
      positive p l = grind arith

  left : (j : ℕ) → is_left_out (0 ∷ []) turn (j * turn) ≡ true
  unfolding is_left_out
  left j = ap (λ n. (0 == n) || false) (place turn turn_some)
    where
      place : (t : ℕ) → 0 < t → (if t == 0 then j * t else (j * t) % t) ≡ 0
      place t l = ap (λ (b : Bool). if b then j * t else (j * t) % t) (ne_eqb t 0 (λ e. omega (arith, e, l)))
          ∙ (let e : j * t ≡ j * t + 0 = omega arith in ap (λ n. n % t) e) ∙ mod-mul-add j t 0 l

  out : (j t : ℕ) → t ≡ j * turn + cal.times.send → effects s.fault t ≡ missed
  unfolding effects_of missed no_effects
  out j t is = from_onset the_fault t (omega (arith, is))
      ∙ ap (λ n. effects_of (Lapse (0 ∷ []) turn) n) (let e : t - cal.times.send ≡ j * turn = omega (arith, is) in e)
      ∙ ap (λ left. record no_effects { ran = λ i. not left }) (left j)

  -- ---- no answer of two periods is good ----

  stale : (h : List Tick) → Follows s.fault 0 h → (j d : ℕ) → length h ≡ j * turn + cal.times.send + 1 + d → d + 1 ≤ period →
      whole_since_answer (moments_of s h) ≡ true → ⊥
  unfolding Follows moments_of
  stale [] follows j d is l whole = omega (arith, is)
  stale (x ∷ h) follows j zero is l whole = missed_part (ap is_whole (sym effect)
      ∙ sym (fields s x.effects x.entry past).whole ∙ (whole_before now past absent whole).0)
    where
      past : List Moment
      past = moments_of s h

      now : Moment
      now = moment s x.effects x.entry past

      effect : x.effects ≡ missed
      effect = follows.0 ∙ out j (0 + length h) (omega (arith, is))

      absent : now.mark ≡ Absent
      absent = (fields s x.effects x.entry past).mark
          ∙ ap (λ y. mark_at cal.times y now.trip past) effect ∙ missed_absent cal.times now.trip past
  stale (x ∷ h) follows j (suc d) is l whole = stale h follows.1 j d (omega (arith, is)) (omega (arith, l))
      (whole_before now past absent whole).1
    where
      past : List Moment
      past = moments_of s h

      now : Moment
      now = moment s x.effects x.entry past

      off : length h % period ≢ cal.times.send
      off same =
          let far = apart period (j * turn + cal.times.send) (length h) some
          ((let e : j * turn + cal.times.send ≡ (j * m) * period + cal.times.send = split j m period in ap (λ n. n % period) e)
          ∙ mod-mul-add (j * m) period cal.times.send inside ∙ sym same) (omega (arith, is)) in
          omega (arith, far, is, l)
        where
          split : (j m p : ℕ) → j * (m * p) + cal.times.send ≡ (j * m) * p + cal.times.send
          split j m p = grind arith

      absent : now.mark ≡ Absent
      absent = (fields s x.effects x.entry past).mark
          ∙ absent_off_place cal.times x.effects now.trip past
          (subst IsRegular (sym follows.0) (lapse_regular s.fault lapse (0 + length h)))
          (ap (λ n. n % period == cal.times.send) (length-moments s h) ∙ ne_eqb _ _ off)

  not_good : (x : Tick) (h : List Tick) → Follows s.fault 0 (x ∷ h) → (j i r : ℕ) → i < 2 → r < period →
      length h ≡ (j * m + i) * period + r → (moment s x.effects x.entry (moments_of s h)).mark ≢ Good
  unfolding Follows is_good_mark
  not_good x h follows j i r two room at good = go i two at
    where
      past : List Moment
      past = moments_of s h

      now : Moment
      now = moment s x.effects x.entry past

      mark_is : mark_at cal.times x.effects now.trip past ≡ Good
      mark_is = sym (fields s x.effects x.entry past).mark ∙ good

      parts : (is_whole x.effects ≡ true) × (whole_since_answer past ≡ true)
      parts = whole_where_good cal.times x.effects now.trip past (ap is_good_mark mark_is)

      place : length h % period ≡ cal.times.send
      place = ap (λ n. n % period) (sym (length-moments s h)) ∙ sent_at_place cal.times x.effects now.trip past
          (subst IsRegular (sym follows.0) (lapse_regular s.fault lapse (0 + length h)))
          (λ absent. let both : Absent ≡ Good = sym absent ∙ mark_is in cc)

      sends : (q : ℕ) → length h ≡ q * period + r → r ≡ cal.times.send
      sends q e = sym (ap (λ n. n % period) e ∙ mod-mul-add q period r room) ∙ place

      go : (i : ℕ) → i < 2 → length h ≡ (j * m + i) * period + r → ⊥
      go zero l e = missed_part (ap is_whole (sym (follows.0 ∙ out j (0 + length h) (first m period (sends (j * m + 0) e) e))) ∙ parts.0)
        where
          first : (m p : ℕ) → r ≡ cal.times.send → length h ≡ (j * m + 0) * p + r → 0 + length h ≡ j * (m * p) + cal.times.send
          first m p f e = let same : (j * m + 0) * p ≡ j * (m * p) = grind arith in omega (arith, e, f, same)
      go (suc zero) l e = stale h follows.1 j (period - 1) (second m period some (sends (j * m + 1) e) e) (let z = some in omega (arith, z)) parts.1
        where
          second : (m p : ℕ) → 0 < p → r ≡ cal.times.send → length h ≡ (j * m + 1) * p + r →
              length h ≡ j * (m * p) + cal.times.send + 1 + (p - 1)
          second m p z f e = let same : (j * m + 1) * p ≡ j * (m * p) + p = grind arith in omega (arith, e, f, same, z)
      go (suc (suc i)) l e = absurd (omega (arith, l))

  none_good : (more before : List Tick) → Follows s.fault 0 (more ++ before) → (j i : ℕ) → i < 2 →
      (j * m + i) * period ≤ length before → length (more ++ before) ≤ (j * m + i + 1) * period → NoGood s more before
  unfolding Follows NoGood
  none_good [] before follows j i two from to = tt
  none_good (x ∷ more) before follows j i two from to = (
    not_good x (more ++ before) (unfold Follows in follows) j i (length (more ++ before) - (j * m + i) * period) two
        (room ((j * m + i) * period) (next (j * m + i) period) low) (exact low),
    none_good more before follows.1 j i two from (omega (arith, to)),
  )
    where
      low : (j * m + i) * period ≤ length (more ++ before)
      low = let sum = length-append more before in omega (arith, sum, from)

      next : (q p : ℕ) → (q + 1) * p ≡ q * p + p
      next q p = grind arith

      room : (base : ℕ) → (j * m + i + 1) * period ≡ base + period → base ≤ length (more ++ before) → length (more ++ before) - base < period
      room base e l = omega (arith, e, l, to)

      exact : (j * m + i) * period ≤ length (more ++ before) →
          length (more ++ before) ≡ (j * m + i) * period + (length (more ++ before) - (j * m + i) * period)
      exact l = omega (arith, l)

  -- so the verdict of such a period is wrong
  spoiled_run : (x : Tick) (h : List Tick) → Follows s.fault 0 (x ∷ h) → (j i : ℕ) → i < 2 →
      suc (length h) ≡ (j * m + i + 1) * period + 0 → TrueRun 1 (wrongs (moments_of s (x ∷ h)))
  unfolding closed
  spoiled_run x h follows j i two size = subst (λ g. TrueRun 1 (wrongs (moments_of s g))) (sym cut.whole)
      (subst (λ n. TrueRun n (wrongs (moments_of s (cut.more ++ cut.rest)))) one
      (wrong_run s accepted.times cut.more cut.rest
      (of_history IsRegular s.fault 0 (cut.more ++ cut.rest) on (λ t l u. lapse_regular s.fault lapse t))
      (none_good cut.more cut.rest on j i two (let e = cut.size in omega (arith, e)) (let e = long in omega (arith, e)))))
    where
      next : (q p : ℕ) → (q + 1) * p ≡ q * p + p
      next q p = grind arith

      cut : EndOf (x ∷ h) ((j * m + i) * period)
      cut = end_of (x ∷ h) ((j * m + i) * period) (let e = next (j * m + i) period in omega (arith, e, size))

      on : Follows s.fault 0 (cut.more ++ cut.rest)
      on = subst (Follows s.fault 0) cut.whole follows

      long : length (cut.more ++ cut.rest) ≡ (j * m + i + 1) * period + 0
      long = sym (ap length cut.whole) ∙ size

      one : length (cut.more ++ cut.rest) / period - (length cut.rest + period - 1 - cal.times.send) / period ≡ 1
      one = counts (j * m + i) (length cut.rest) (length (cut.more ++ cut.rest)) cut.size long
        where
          counts : (q b t : ℕ) → b ≡ q * period → t ≡ (q + 1) * period + 0 → t / period - (b + period - 1 - cal.times.send) / period ≡ 1
          counts q b t e f =
              let now : t / period ≡ q + 1 = ap (λ n. n / period) f ∙ div-mul-add (q + 1) period 0 some in
              let before : (b + period - 1 - cal.times.send) / period ≡ q =
              ap (λ n. n / period) (let g : b + period - 1 - cal.times.send ≡ q * period + (period - 1 - cal.times.send) =
              omega (arith, e, inside) in g) ∙ div-mul-add q period (period - 1 - cal.times.send) (let l = inside in omega (arith, l)) in
              omega (arith, now, before)

  -- ---- tick by tick ----

  module _ (gain : ℕ) (paid : gain + k * cal.times.weights.down ≤ 2 * cal.times.weights.up) where
    abbrev w : WeightParts
    w = cal.times.weights

    record At (h : List Tick) : Type 0 where
      j : ℕ
      i : ℕ
      r : ℕ
      at : length h ≡ (j * m + i) * period + r
      within : i < m
      room : r < period
      counts : Counts w gain j i (greatest w (wrongs (moments_of s h)))

    module _ (x : Tick) (h : List Tick) (follows : Follows s.fault 0 (x ∷ h)) (a : At h) where
      abbrev past : List Moment
      past = moments_of s h

      abbrev now : Moment
      now = moment s x.effects x.entry past

      abbrev q : ℕ
      q = a.j * m + a.i

      regular : IsRegular x.effects
      regular =
          let now : x.effects ≡ effects s.fault (0 + length h) = (unfold Follows in follows.0) in
          subst IsRegular (sym now) (lapse_regular s.fault lapse (0 + length h))

      go_on : suc a.r < period → At (x ∷ h)
      unfolding moments_of
      go_on more = record {
        j = a.j;
        i = a.i;
        r = suc a.r;
        at = (let e = a.at in omega (arith, e));
        within = a.within;
        room = more;
        counts = subst (λ bits. Counts w gain a.j a.i (greatest w bits)) (sym same) a.counts;
      }
        where
          place : (length past + 1) % period ≡ suc a.r
          place = ap (λ t. t % period) (next (length past) (length h) (length-moments s h) a.at) ∙ mod-mul-add q period (suc a.r) more
            where
              next : (n t : ℕ) → n ≡ t → t ≡ q * period + a.r → n + 1 ≡ q * period + suc a.r
              next n t e f = omega (arith, e, f)

          none : now.verdict ≡ None
          none = (fields s x.effects x.entry past).verdict
              ∙ verdict_none cal.times accepted.times x.effects now.mark past (let p = place in omega (arith, p))

          same : wrongs (now ∷ past) ≡ wrongs past
          same = wrongs-cons now past ∙ ap (λ v. with_wrong v (wrongs past)) none ∙ (unfold with_wrong in refl)

      close : suc a.r ≡ period → At (x ∷ h)
      unfolding moments_of
      close whole = elim (cases_lt (suc a.i) m) [
        | inl more ↦ record {
          j = a.j;
          i = suc a.i;
          r = 0;
          at = ends a.j a.i m period a.at whole;
          within = more;
          room = some;
          counts = counted;
        }
        | inr last ↦ record {
          j = suc a.j;
          i = 0;
          r = 0;
          at = size ∙ ap (λ n. n * period + 0) (turns a.j a.i m (full last));
          within = omega arith;
          room = some;
          counts = round w gain k paid a.j (greatest w (wrongs (now ∷ past)))
              (subst (λ n. Counts w gain a.j n (greatest w (wrongs (now ∷ past)))) (full last) counted);
        }
      ]
        where
          full : m ≤ suc a.i → suc a.i ≡ m
          full l = let z = a.within in omega (arith, z, l)

          ends : (j i m p : ℕ) → length h ≡ (j * m + i) * p + a.r → suc a.r ≡ p → suc (length h) ≡ (j * m + suc i) * p + 0
          ends j i m p e f = grind arith

          turns : (j i m : ℕ) → suc i ≡ m → j * m + i + 1 ≡ suc j * m + 0
          turns j i m e = omega (arith, e)

          size : suc (length h) ≡ (q + 1) * period + 0
          size = closing q period a.at whole
            where
              closing : (q p : ℕ) → length h ≡ q * p + a.r → suc a.r ≡ p → suc (length h) ≡ (q + 1) * p + 0
              closing q p e f = grind arith

          these : List MarkedAnswer
          these = with_answer (length past) now.mark (answers_in (take (period - 1) past))

          wrong : Bool
          wrong = is_wrong (verdict_of cal.times these)

          last_one : (length past + 1) % period ≡ 0
          last_one = ap (λ t. t % period) (next (length past) (length h) (length-moments s h) size)
              ∙ mod-mul-add (q + 1) period 0 some
            where
              next : (n t : ℕ) {r : ℕ} → n ≡ t → suc t ≡ r → n + 1 ≡ r
              next n t e f = omega (arith, e, f)

          bits : wrongs (now ∷ past) ≡ wrong ∷ wrongs past
          bits = wrongs-cons now past ∙ ap (λ v. with_wrong v (wrongs past))
              ((fields s x.effects x.entry past).verdict
              ∙ verdict_some cal.times accepted.times x.effects now.mark past regular.judged last_one)
              ∙ (unfold with_wrong in refl)

          -- the first two of a round are wrong
          spoiled : a.i < 2 → wrong ≡ true
          spoiled two = first (subst (TrueRun 1) bits (spoiled_run x h follows a.j a.i two size))
            where
              first : TrueRun 1 (wrong ∷ wrongs past) → wrong ≡ true
              first run = unfold TrueRun in run.0

          counted : Counts w gain a.j (suc a.i) (greatest w (wrongs (now ∷ past)))
          counted = subst (λ b. Counts w gain a.j (suc a.i) (greatest w b)) (sym bits)
              (counts_on w gain k paid a.j a.i (greatest w (wrongs past)) (greatest w (wrong ∷ wrongs past))
              (λ two. ap (λ b. greatest w (b ∷ wrongs past)) (spoiled two) ∙ greatest-bad w (wrongs past))
              (counts_one w wrong (wrongs past)) a.counts)

      at_next : At (x ∷ h)
      at_next = elim (cases_lt (suc a.r) period) [
        | inl more ↦ go_on more
        | inr whole ↦ close (let z = a.room in omega (arith, whole, z))
      ]

    at_first : (m p : ℕ) → 0 ≡ (0 * m + 0) * p + 0
    at_first m p = grind arith

    at_all : (h : List Tick) → Follows s.fault 0 h → At h
    unfolding Follows Counts
    at_all [] follows = record {
      j = 0;
      i = 0;
      r = 0;
      at = at_first m period;
      within = omega arith;
      room = some;
      counts = omega arith;
    }
    at_all (x ∷ h) follows = at_next x h (unfold Follows in follows) (at_all h follows.1)

    over : (n j i r m p : ℕ) → n * (m * p) ≡ (j * m + i) * p + r → i < m → r < p → j < n → ⊥
    over n j i r m p e within room less =
        let all = scaled (j * m + i + 1) (suc j * m) p (omega (arith, within)) in
        let next : (j * m + i + 1) * p ≡ (j * m + i) * p + p = grind arith in
        let same : (suc j * m) * p ≡ suc j * (m * p) = grind arith in
        let most = scaled (suc j) n (m * p) less in
        omega (arith, e, room, all, next, same, most)

    -- after enough rounds wrong answers are confirmed
    pub confirmed : (n : ℕ) → w.limit ≤ n * gain → (h : List Tick) → Follows s.fault 0 h → length h ≡ n * turn →
        is_confirmed w (wrongs (moments_of s h)) ≡ true
    confirmed n enough h follows size = reached_confirms w (wrongs (moments_of s h)) (let l = accepted.answers.3 in omega (arith, l))
        (let least = counts_least w gain k paid a.j a.i (greatest w (wrongs (moments_of s h))) a.within a.counts in
        let all = scaled n a.j gain rounds in omega (arith, enough, all, least))
      where
        a : At h
        a = at_all h follows

        rounds : n ≤ a.j
        rounds = elim (cases_lt a.j n) [
          | inl less ↦ absurd (over n a.j a.i a.r m period (sym size ∙ a.at) a.within a.room less)
          | inr enough ↦ enough
        ]
