-- Few misses leave wrong answers unconfirmed wherever they lie: each spoils two verdicts at the most.
use Rattle.std.specs.Prelude.{if◌then◌else◌, ◌==◌}
use Rattle.std.proofs.Common.{inl, inr, ◌≡◌, ℕ, zero, suc, ◌+◌, ◌-◌, ◌*◌, ◌/◌, ◌%◌, ◌≤◌, ◌<◌, Bool, true, false, not, List, [], ◌∷◌, length, take, Some, None, refl, sym, ap, ap₂, ◌∙◌, subst, arith}
use Rattle.std.proofs.Math.Nat.{div-mul-le_self}
use Rattle.std.proofs.lemmas.Nat.{mod-mul-add}
use Rattle.std.proofs.lemmas.Bool.{cases_lt, or_left, or_from, and_left, true≢false, lt-leb, lt-ltb, ne_eqb}
use Rattle.eg_num.specs.Windows.{WeightParts, is_reached, is_confirmed, is_first, greatest}
use Rattle.eg_num.proofs.CounterLemmas.{greatest-nil, greatest-bad, greatest-good, is_reached-greatest}
use Rattle.eg_answer.specs.Times.{TimeParts, AreTimes, silent_misses_of}
use Rattle.eg_answer.specs.Periods.{MarkedAnswer, verdict_of, is_wrong}
use Rattle.eg_answer.specs.declared.marks.AnswerMark.{AnswerMark}
use Rattle.eg_answer.specs.declared.marks.AnswerMark.TheVariants.{Absent}
use Rattle.eg_values.specs.Calibration.{IsAccepted}
use Rattle.eg_fault.specs.Effects.{no_effects}
use Rattle.eg_fault.specs.Faults.{effects}
use Rattle.eg_fault.proofs.ClassLemmas.{regular}
use Rattle.eg_model.specs.History.{Setting, Entry, Tick, Moment}
use Rattle.eg_model.specs.Signals.{tripped}
use Rattle.eg_model.specs.Answers.{is_whole, is_answer, whole_since_answer, with_answer, answers_in, verdicts_in, confirms_at}
use Rattle.eg_model.specs.Paths.{latch2}
use Rattle.eg_model.specs.Moments.{moment, moments_of}
use Rattle.eg_model.specs.Premises.{Follows}
use Rattle.eg_model.specs.Lapses.{IsLapse}
use Rattle.eg_laws.specs.Availability.{misses_tick, missed_ticks, FewMissesKeepPath2}
use Rattle.eg_model.proofs.TickLemmas.{length-moments, untripped_before, fields}
use Rattle.eg_model.proofs.Silence.{period_least, send_within, verdict_none, verdict_some, wrongs, with_wrong, wrongs-cons, latch2-cons}
use Rattle.eg_model.proofs.LapseAnswers.{absent_off_place}
use Rattle.eg_model.proofs.SharpCutLaw.{usual_mark, one_answer, sent_now, mark_plain, whole_plain, whole-cons, right_alone}
use Rattle.eg_laws.proofs.MissWeights.{never_confirmed}
use Rattle.eg_laws.proofs.MissTicks.{missed, as_tick, to_tick, lapse_tick, counts_as_missed, answered_plain}
use Rattle.eg_laws.proofs.MissVerdicts.{no_answers, one_whole, missed_absent, calm_now}

-- What is so after each tick by which no trip has come: q periods have a verdict, and n ticks came since. `now` verdicts
-- of the period that is open, and `next` of the one after it, one each at the most, may be wrong; and so many misses came
-- that two for each cover these and the wrong ones.
pub record Silent (s : Setting) (start spent : ℕ) (h : List Tick) : Type 0 where
  pub q : ℕ
  pub n : ℕ
  pub now : ℕ
  pub next : ℕ
  pub at : length h ≡ q * s.cal.times.period + n
  pub room : n < s.cal.times.period
  pub weighs : greatest s.cal.times.weights (wrongs (moments_of s h)) + (now + next) * s.cal.times.weights.up ≤ 2 * spent * s.cal.times.weights.up
  pub before : n ≤ s.cal.times.send → now ≡ 0 → whole_since_answer (moments_of s h) ≡ true
  pub behind : s.cal.times.send < n → next ≡ 0 → whole_since_answer (moments_of s h) ≡ true
  pub early : n ≤ s.cal.times.send → next ≡ 0
  pub answers : now ≡ 0 → answers_in (take n (moments_of s h)) ≡ one_answer s.cal.times q n
  pub quiet : is_confirmed s.cal.times.weights (wrongs (moments_of s h)) ≡ false
  pub closed : latch2 (moments_of s h) ≡ false

-- the same of the tick x after h, before its verdict
record Goes (s : Setting) (x : Tick) (h : List Tick) (q n now next spent : ℕ) : Type 0 where
  pub judged : x.effects.wild ≡ None
  pub opens : x.effects.opens ≡ false
  pub weighs : greatest s.cal.times.weights (wrongs (moments_of s h)) + (now + next) * s.cal.times.weights.up ≤ 2 * spent * s.cal.times.weights.up
  pub before : suc n ≤ s.cal.times.send → now ≡ 0 → whole_since_answer (moment s x.effects x.entry (moments_of s h) ∷ moments_of s h) ≡ true
  pub behind : s.cal.times.send < suc n → next ≡ 0 → whole_since_answer (moment s x.effects x.entry (moments_of s h) ∷ moments_of s h) ≡ true
  pub early : suc n ≤ s.cal.times.send → next ≡ 0
  pub answers : now ≡ 0 → with_answer (length h) (moment s x.effects x.entry (moments_of s h)).mark
      (answers_in (take n (moments_of s h))) ≡ one_answer s.cal.times q (suc n)

scaled : (a b p : ℕ) → a ≤ b → a * p ≤ b * p
scaled a b p l = grind arith

-- one verdict more: a wrong one was pending
weighs_verdict : (w : WeightParts) (bits : List Bool) (wrong : Bool) (now next spent : ℕ) → (now ≡ 0 → wrong ≡ false) →
    greatest w bits + (now + next) * w.up ≤ 2 * spent * w.up → greatest w (wrong ∷ bits) + (next + 0) * w.up ≤ 2 * spent * w.up
weighs_verdict w bits false now next spent right before = rw (greatest-good w bits)
    (let m = scaled (next + 0) (now + next) w.up (omega arith) in omega (arith, before, m))
weighs_verdict w bits true zero next spent right before = absurd (true≢false (right refl))
weighs_verdict w bits true (suc now) next spent right before = rw (greatest-bad w bits)
    (let m = scaled (suc next) (suc now + next) w.up (omega arith) in omega (arith, before, m))

module _ (s : Setting) (accepted : IsAccepted s.cal) (start spent : ℕ) (few : 2 * spent * s.cal.times.weights.up < s.cal.times.weights.limit)
    (x : Tick) (h : List Tick) (q n now next : ℕ) (at : length h ≡ q * s.cal.times.period + n) (room : n < s.cal.times.period)
    (goes : Goes s x h q n now next spent) (quiet : is_confirmed s.cal.times.weights (wrongs (moments_of s h)) ≡ false)
    (closed : latch2 (moments_of s h) ≡ false) where
  abbrev times : TimeParts
  times = s.cal.times

  abbrev past : List Moment
  past = moments_of s h

  abbrev m : Moment
  m = moment s x.effects x.entry past

  size : length past ≡ length h
  size = length-moments s h

  opens_none : m.opens ≡ false
  opens_none = (fields s x.effects x.entry past).opens ∙ goes.opens

  -- one that has none
  go_on : suc n < times.period → Silent s start spent (x ∷ h)
  unfolding moments_of answers_in
  go_on more = record {
    q = q;
    n = suc n;
    now = now;
    next = next;
    at = omega (arith, at);
    room = more;
    weighs = subst (λ bits. greatest times.weights bits + (now + next) * times.weights.up ≤ 2 * spent * times.weights.up) (sym same) goes.weighs;
    before = goes.before;
    behind = goes.behind;
    early = goes.early;
    answers = λ none. ap (λ t. with_answer t m.mark (answers_in (take n past))) ((fields s x.effects x.entry past).tick ∙ size) ∙ goes.answers none;
    quiet = ap (is_confirmed times.weights) same ∙ quiet;
    closed = latch2-cons m past ∙ or_from _ _ (or_from _ _ unconfirmed opens_none) closed;
  }
    where
      place : (length past + 1) % times.period ≡ suc n
      place = ap (λ t. t % times.period) (following (length past) (length h) size at) ∙ mod-mul-add q times.period (suc n) more
        where
          following : (k t : ℕ) → k ≡ t → t ≡ q * times.period + n → k + 1 ≡ q * times.period + suc n
          following k t e f = omega (arith, e, f)

      none : m.verdict ≡ None
      none = (fields s x.effects x.entry past).verdict
          ∙ verdict_none times accepted.times x.effects m.mark past (omega (arith, place))

      same : wrongs (m ∷ past) ≡ wrongs past
      same = wrongs-cons m past ∙ ap (λ v. with_wrong v (wrongs past)) none ∙ (unfold with_wrong in refl)

      unconfirmed : m.confirms ≡ false
      unconfirmed = (fields s x.effects x.entry past).confirms ∙ ap (λ v. confirms_at times v past) none ∙ (unfold confirms_at in refl)

  -- one that closes a period
  close : suc n ≡ times.period → Silent s start spent (x ∷ h)
  unfolding moments_of
  close whole = record {
    q = q + 1;
    n = 0;
    now = next;
    next = 0;
    at = ends (length h) at whole;
    room = period_least times accepted.times;
    weighs = subst (λ b. greatest times.weights b + (next + 0) * times.weights.up ≤ 2 * spent * times.weights.up) (sym bits) low;
    before = λ l none. goes.behind (let i = send_within times accepted.times in omega (arith, i, whole)) none;
    behind = λ l. absurd (omega (arith, l));
    early = λ l. refl;
    answers = λ none. (unfold answers_in in no_answers times (q + 1));
    quiet = ap (is_confirmed times.weights) bits ∙ never_confirmed times.weights wrong (wrongs past) unreached quiet;
    closed = latch2-cons m past ∙ or_from _ _ (or_from _ _ unconfirmed opens_none) closed;
  }
    where
      ends : (t : ℕ) {p : ℕ} → t ≡ q * p + n → suc n ≡ p → suc t ≡ (q + 1) * p + 0
      ends t {p} e f = omega (arith, e, f)

      these : List MarkedAnswer
      these = with_answer (length past) m.mark (answers_in (take (times.period - 1) past))

      wrong : Bool
      wrong = is_wrong (verdict_of times these)

      last_one : (length past + 1) % times.period ≡ 0
      last_one = ap (λ t. t % times.period) (following (length past) (length h) size (ends (length h) at whole))
          ∙ mod-mul-add (q + 1) times.period 0 (period_least times accepted.times)
        where
          following : (k t : ℕ) {r : ℕ} → k ≡ t → suc t ≡ r → k + 1 ≡ r
          following k t e f = omega (arith, e, f)

      told : m.verdict ≡ Some (verdict_of times these)
      told = (fields s x.effects x.entry past).verdict
          ∙ verdict_some times accepted.times x.effects m.mark past goes.judged last_one

      bits : wrongs (m ∷ past) ≡ wrong ∷ wrongs past
      bits = wrongs-cons m past ∙ ap (λ v. with_wrong v (wrongs past)) told ∙ (unfold with_wrong in refl)

      right : now ≡ 0 → wrong ≡ false
      right none = ap (λ a. is_wrong (verdict_of times a)) (ap₂ (λ t k. with_answer t m.mark (answers_in (take k past))) size less
          ∙ goes.answers none ∙ one_whole times q n (let z = send_within times accepted.times in omega (arith, z, whole)))
          ∙ ap is_wrong (right_alone times q accepted.times) ∙ (unfold is_wrong in refl)
        where
          less : times.period - 1 ≡ n
          less = omega (arith, whole)

      low : greatest times.weights (wrong ∷ wrongs past) + (next + 0) * times.weights.up ≤ 2 * spent * times.weights.up
      low = weighs_verdict times.weights (wrongs past) wrong now next spent right goes.weighs

      unreached : is_reached times.weights (wrong ∷ wrongs past) ≡ false
      unreached = is_reached-greatest times.weights (wrong ∷ wrongs past) (let l = accepted.answers.3 in omega (arith, l))
          ∙ lt-leb times.weights.limit (greatest times.weights (wrong ∷ wrongs past)) (let l = low in omega (arith, l, few))

      unconfirmed : m.confirms ≡ false
      unconfirmed = (fields s x.effects x.entry past).confirms ∙ ap (λ v. confirms_at times v past) told ∙ not_yet
        where
          not_yet : confirms_at times (Some (verdict_of times these)) past ≡ false
          not_yet = unfold confirms_at wrongs is_first in and_left _ _ unreached

  one_more : Silent s start spent (x ∷ h)
  one_more = elim (cases_lt (suc n) times.period) [
    | inl more ↦ go_on more
    | inr whole ↦ close (omega (arith, whole, room))
  ]

-- ---- a tick at which level 2 runs ----

-- behind the send tick no answer comes
silent_answer : (times : TimeParts) (t q n : ℕ) (mark : AnswerMark) (these : List MarkedAnswer) →
    these ≡ one_answer times q n → times.send < n → mark ≡ Absent → with_answer t mark these ≡ one_answer times q (suc n)
unfolding with_answer
silent_answer times t q n mark these one late absent = ap (λ m. with_answer t m these) absent
    ∙ one ∙ rw (lt-ltb times.send n late, lt-ltb times.send (suc n) (omega (arith, late))) refl

module _ (s : Setting) (accepted : IsAccepted s.cal) (start spent : ℕ) (e : Entry) (h : List Tick) (r : Silent s start spent h)
    (untripped : tripped (moments_of s h) ≡ false) where
  abbrev ms : List Moment
  ms = moments_of s h

  -- where level 2 runs
  module _ (calm : (moment s no_effects e ms).trip ≡ false) where
    abbrev run : Moment
    run = moment s no_effects e ms

    ran_on : whole_since_answer ms ≡ true → whole_since_answer (run ∷ ms) ≡ true
    ran_on whole = whole-cons run ms ((fields s no_effects e ms).whole ∙ whole_plain) whole

    sent : r.n ≡ s.cal.times.send → whole_since_answer (run ∷ ms) ≡ true
    sent same = unfold whole_since_answer in or_left _ _ (ap is_answer (fields s no_effects e ms).mark
        ∙ answered_plain s.cal.times run.trip ms calm untripped
        (ap (λ t. t % s.cal.times.period) (length-moments s h ∙ r.at) ∙ mod-mul-add r.q s.cal.times.period r.n r.room ∙ same))

    answered : r.now ≡ 0 → with_answer (length h) run.mark (answers_in (take r.n ms)) ≡ one_answer s.cal.times r.q (suc r.n)
    answered none = elim (cases_lt s.cal.times.send r.n) [
      | inl late ↦ silent_answer s.cal.times (length h) r.q r.n run.mark (answers_in (take r.n ms)) (r.answers none) late (unsent late)
      | inr upto ↦ ap₂ (with_answer (length h)) (usual upto) (r.answers none) ∙ sent_now s.cal.times r.q r.n (length h) r.room r.at
    ]
      where
        usual : r.n ≤ s.cal.times.send → run.mark ≡ usual_mark s.cal.times (length h)
        usual upto = (fields s no_effects e ms).mark
            ∙ mark_plain s.cal.times run.trip ms calm untripped (r.before upto none)
            ∙ ap (usual_mark s.cal.times) (length-moments s h)

        unsent : s.cal.times.send < r.n → run.mark ≡ Absent
        unsent late = (fields s no_effects e ms).mark
            ∙ absent_off_place s.cal.times no_effects run.trip ms regular
            (ap (λ t. t % s.cal.times.period == s.cal.times.send) (length-moments s h ∙ r.at)
            ∙ ap (λ t. t == s.cal.times.send) (mod-mul-add r.q s.cal.times.period r.n r.room)
            ∙ ne_eqb r.n s.cal.times.send (λ same. omega (arith, same, late)))

    runs : Goes s (record { effects = no_effects; entry = e }) h r.q r.n r.now r.next spent
    runs = record {
      judged = unfold no_effects in refl;
      opens = unfold no_effects in refl;
      weighs = r.weighs;
      before = λ l none. ran_on (r.before (omega (arith, l)) none);
      behind = λ l none. elim (cases_lt s.cal.times.send r.n) [
        | inl late ↦ ran_on (r.behind late none)
        | inr upto ↦ sent (omega (arith, l, upto))
      ];
      early = λ l. r.early (omega (arith, l));
      answers = answered;
    }

  -- ---- a tick that it misses ----

  missed_at : (now next : ℕ) → (s.cal.times.send < r.n → now ≡ r.now) → (r.n ≤ s.cal.times.send → now ≡ 1) →
      (r.n < s.cal.times.send → next ≡ r.next) → (s.cal.times.send ≤ r.n → next ≡ 1) → now ≤ 1 + r.now → next ≤ 1 + r.next →
      Goes s (record { effects = missed; entry = e }) h r.q r.n now next (suc spent)
  missed_at now next keeps spoils next_keeps next_spoils few few_next = record {
    judged = unfold missed no_effects in refl;
    opens = unfold missed no_effects in refl;
    weighs = more (greatest s.cal.times.weights (wrongs ms)) r.now r.next s.cal.times.weights.up r.weighs few few_next;
    before = λ l none. absurd (let o = spoils (omega (arith, l)) in omega (arith, o, none));
    behind = λ l none. absurd (let o = next_spoils (omega (arith, l)) in omega (arith, o, none));
    early = λ l. next_keeps (omega (arith, l)) ∙ r.early (omega (arith, l));
    answers = λ none. elim (cases_lt s.cal.times.send r.n) [
      | inl late ↦ silent_answer s.cal.times (length h) r.q r.n (moment s missed e ms).mark (answers_in (take r.n ms))
          (r.answers (sym (keeps late) ∙ none)) late (missed_absent s e ms)
      | inr upto ↦ absurd (let o = spoils upto in omega (arith, o, none))
    ];
  }
    where
      more : (g a b up : ℕ) → g + (a + b) * up ≤ 2 * spent * up → now ≤ 1 + a → next ≤ 1 + b → g + (now + next) * up ≤ 2 * suc spent * up
      more g a b up l f k = let m = scaled (now + next) (a + b + 2) up (omega (arith, f, k)) in omega (arith, l, m)

  -- by the place of the tick
  misses : (now next : ℕ) × Goes s (record { effects = missed; entry = e }) h r.q r.n now next (suc spent)
  misses = elim (cases_lt r.n s.cal.times.send) [
    | inl early ↦ (
      1,
      r.next,
      missed_at 1 r.next (λ late. absurd (omega (arith, early, late))) (λ l. refl) (λ l. refl)
          (λ late. absurd (omega (arith, early, late))) (omega arith) (omega arith),
    )
    | inr from ↦ elim (cases_lt s.cal.times.send r.n) [
      | inl late ↦ (
        r.now,
        1,
        missed_at r.now 1 (λ l. refl) (λ l. absurd (omega (arith, l, late))) (λ l. absurd (omega (arith, l, from)))
            (λ l. refl) (omega arith) (omega arith),
      )
      | inr upto ↦ (
        1,
        1,
        missed_at 1 1 (λ late. absurd (omega (arith, upto, late))) (λ l. refl) (λ l. absurd (omega (arith, l, from)))
            (λ l. refl) (omega arith) (omega arith),
      )
    ]
  ]

-- ---- all ticks ----

silent_at_first : (s : Setting) → AreTimes s.cal.times → (start : ℕ) → Silent s start 0 []
unfolding moments_of wrongs verdicts_in is_confirmed latch2 whole_since_answer answers_in
silent_at_first s are start = record {
  q = 0;
  n = 0;
  now = 0;
  next = 0;
  at = omega arith;
  room = period_least s.cal.times are;
  weighs = (let z = greatest-nil s.cal.times.weights in omega (arith, z));
  before = λ l none. refl;
  behind = λ l none. refl;
  early = λ l. refl;
  answers = λ none. no_answers s.cal.times 0;
  quiet = refl;
  closed = refl;
}

-- so many misses weigh less than the limit
few_weigh : (s : Setting) → IsAccepted s.cal → (spent : ℕ) → spent ≤ silent_misses_of s.cal.times →
    2 * spent * s.cal.times.weights.up < s.cal.times.weights.limit
unfolding silent_misses_of
few_weigh s accepted spent few =
    let all = div-mul-le_self (s.cal.times.weights.limit - 1) (2 * s.cal.times.weights.up) in
    let m = scaled spent ((s.cal.times.weights.limit - 1) / (2 * s.cal.times.weights.up)) (2 * s.cal.times.weights.up) few in
    let l = accepted.answers.3 in omega (arith, all, m, l)

silent_more : (s : Setting) → IsAccepted s.cal → IsLapse s.fault → (start : ℕ) (x : Tick) (h : List Tick) →
    x.effects ≡ effects s.fault (start + length h) → missed_ticks s.fault start (suc (length h)) ≤ silent_misses_of s.cal.times →
    tripped (moments_of s h) ≡ false → (moment s x.effects x.entry (moments_of s h)).trip ≡ false →
    Silent s start (missed_ticks s.fault start (length h)) h → Silent s start (missed_ticks s.fault start (suc (length h))) (x ∷ h)
unfolding missed_ticks
silent_more s accepted lapse start x h is few untripped calm r = elim (lapse_tick s.fault lapse (start + length h)) [
  | inl plain ↦ (let same = ap (λ b. (if b then 1 else 0) + spent) (ran plain) in
      subst (λ n. Silent s start n (x ∷ h)) (sym (same ∙ no_more_miss))
      (one_more s accepted start spent (few_weigh s accepted spent (let f = few in omega (arith, f, same))) x h r.q r.n r.now r.next r.at r.room
      (as_tick (λ y. Goes s y h r.q r.n r.now r.next spent) x no_effects (is ∙ plain)
      (runs s accepted start spent x.entry h r untripped
      (to_tick (λ y. (moment s y.effects y.entry (moments_of s h)).trip ≡ false) x no_effects (is ∙ plain) calm))) r.quiet r.closed))
  | inr out ↦ (let same = ap (λ b. (if b then 1 else 0) + spent) (counts_as_missed s.fault (start + length h) out) in
      let miss = misses s accepted start spent x.entry h r untripped in
      subst (λ n. Silent s start n (x ∷ h)) (sym (same ∙ one_more_miss))
      (one_more s accepted start (suc spent) (few_weigh s accepted (suc spent) (let f = few in omega (arith, f, same))) x h r.q r.n miss.0 miss.1 r.at r.room
      (as_tick (λ y. Goes s y h r.q r.n miss.0 miss.1 (suc spent)) x missed (is ∙ out) miss.2) r.quiet r.closed))
]
  where
    spent : ℕ
    spent = missed_ticks s.fault start (length h)

    no_more_miss : 0 + spent ≡ spent
    no_more_miss = omega arith

    one_more_miss : 1 + spent ≡ suc spent
    one_more_miss = omega arith

    ran : effects s.fault (start + length h) ≡ no_effects → misses_tick s.fault (start + length h) ≡ false
    ran plain = unfold misses_tick in ap (λ y. not (is_whole y)) plain ∙ ap not whole_plain

silent : (s : Setting) → IsAccepted s.cal → IsLapse s.fault → (start : ℕ) (h : List Tick) → Follows s.fault start h →
    missed_ticks s.fault start (length h) ≤ silent_misses_of s.cal.times → tripped (moments_of s h) ≡ false →
    Silent s start (missed_ticks s.fault start (length h)) h
unfolding Follows moments_of
silent s accepted lapse start [] follows few untripped =
    let none : 0 ≡ missed_ticks s.fault start 0 = unfold missed_ticks in refl in
    subst (λ n. Silent s start n []) none (silent_at_first s accepted.times start)
silent s accepted lapse start (x ∷ h) follows few untripped =
    let before = untripped_before (moment s x.effects x.entry (moments_of s h)) (moments_of s h) untripped in
    silent_more s accepted lapse start x h follows.0 few before (calm_now _ (moments_of s h) untripped)
    (silent s accepted lapse start h follows.1 (unfold missed_ticks in omega (arith, few)) before)

pub few_misses_keep_path_2 : FewMissesKeepPath2
few_misses_keep_path_2 s accepted lapse start h follows few untripped = (silent s accepted lapse start h follows few untripped).closed
