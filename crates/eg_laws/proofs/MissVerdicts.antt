-- Under misses that are far apart: which answers are sent as long as no trip has come, and that their verdicts
-- never confirm.
use Rattle.std.specs.Prelude.{if◌then◌else◌, ◌==◌, nat_lt}
use Rattle.eg_answer.specs.declared.marks.AnswerMark.{AnswerMark}
use Rattle.eg_answer.specs.declared.marks.AnswerMark.TheVariants.{Absent}
use Rattle.eg_fault.specs.Effects.{sends_at}
use Rattle.eg_fault.proofs.ClassLemmas.{regular}
use Rattle.eg_model.proofs.LapseAnswers.{absent_off_place}
use Rattle.eg_laws.proofs.FewVerdicts.{quotient_positive}
use Rattle.std.proofs.Common.{◌≡◌, ℕ, zero, suc, ◌+◌, ◌-◌, ◌*◌, ◌%◌, ◌≤◌, ◌<◌, Bool, true, false, List, [], ◌∷◌, length, take, inl, inr, ◌⊎◌, Some, None, refl, sym, ap, ap₂, ◌∙◌, subst, arith}
use Rattle.std.proofs.lemmas.Nat.{mod-mul-add}
use Rattle.std.proofs.lemmas.Bool.{cases_lt, or_left, or_from, or_parts, and_left, and_right, lt-ltb, le-ltb, ne_eqb}
use Rattle.eg_num.specs.Windows.{is_reached, is_confirmed, is_first, greatest}
use Rattle.eg_answer.specs.Times.{TimeParts, AreTimes, periods_between_misses, miss_spacing_of}
use Rattle.eg_answer.specs.Periods.{MarkedAnswer, verdict_of, is_wrong}
use Rattle.eg_values.specs.Calibration.{IsAccepted}
use Rattle.eg_fault.specs.Effects.{no_effects}
use Rattle.eg_fault.specs.Faults.{effects}
use Rattle.eg_model.specs.History.{Setting, Entry, Tick, Moment}
use Rattle.eg_model.specs.Signals.{tripped}
use Rattle.eg_model.specs.Answers.{is_answer, whole_since_answer, is_sent, mark_at, with_answer, answers_in, verdicts_in, confirms_at}
use Rattle.eg_model.specs.Paths.{latch2}
use Rattle.eg_model.specs.Moments.{moment, moments_of}
use Rattle.eg_model.specs.Premises.{Follows}
use Rattle.eg_model.specs.Lapses.{IsLapse}
use Rattle.eg_laws.specs.Availability.{misses_tick, IsSpacedLapse}
use Rattle.eg_model.proofs.TickLemmas.{length-moments, untripped_before, fields}
use Rattle.eg_model.proofs.Silence.{period_least, send_within, verdict_none, verdict_some, wrongs, with_wrong, wrongs-cons, latch2-cons}
use Rattle.eg_model.proofs.PlainTick.{plain}
use Rattle.eg_model.proofs.SharpCutLaw.{usual_mark, right_answer, one_answer, sent_now, mark_plain, whole_plain, whole-cons, right_alone}
use Rattle.eg_laws.proofs.MissWeights.{Weighs, weighs_at_first, weighs_anew, weighs_more, taken_back, never_reached, never_confirmed}
use Rattle.eg_laws.proofs.MissTicks.{missed, as_tick, to_tick, lapse_tick, counts_as_missed, answered_plain}

-- From tick `start` on and before tick `end` a lapse spoils at most `most` verdicts that weigh together less than the
-- limit, before right ones have taken that back: a miss at a send tick spoils two, another one. Two misses lie so far
-- apart that they do.
pub record SparesVerdicts (s : Setting) (start end : ℕ) : Type 0 where
  pub lapse : IsLapse s.fault
  pub most : ℕ
  pub some : 1 ≤ most
  pub small : most ≤ 2
  pub few : most * s.cal.times.weights.up < s.cal.times.weights.limit
  pub sent : (tick : ℕ) → start + tick < end → misses_tick s.fault (start + tick) ≡ true →
      tick % s.cal.times.period ≡ s.cal.times.send → most ≡ 2
  pub apart : (first second : ℕ) → start ≤ first → second < end → misses_tick s.fault first ≡ true →
      misses_tick s.fault second ≡ true → first < second → (first + miss_spacing_of s.cal.times ≤ second) × (1 ≤ s.cal.times.weights.down)

-- so it is by misses that lie far enough apart
pub spaced_spares : (s : Setting) (start end : ℕ) → IsSpacedLapse s start end → SparesVerdicts s start end
spaced_spares s start end lapse = record {
  lapse = lapse.lapse;
  most = 2;
  some = omega arith;
  small = omega arith;
  few = lapse.has.two_are_few;
  sent = λ tick before out place. refl;
  apart = λ first second from before one two less. (lapse.spaced first second from before one two less, lapse.has.some_taken);
}

-- a miss before tick `now` of a history that begins at tick `start`: the verdicts from period `settled` on are right
-- again, and the send tick before that comes no more than a period after the miss
pub record Miss (s : Setting) (start settled now : ℕ) : Type 0 where
  pub tick : ℕ
  pub earlier : tick < now
  pub counts : misses_tick s.fault (start + tick) ≡ true
  pub settles : settled * s.cal.times.period + s.cal.times.send ≤ tick + 2 * s.cal.times.period

-- What is so after each tick by which no trip has come: q periods have a verdict, and n ticks came since. The verdicts
-- from period `from` up to `settled` may be wrong.
pub record Recovering (s : Setting) (most start : ℕ) (h : List Tick) : Type 0 where
  pub q : ℕ
  pub n : ℕ
  pub from : ℕ
  pub settled : ℕ
  pub at : length h ≡ q * s.cal.times.period + n
  pub room : n < s.cal.times.period
  pub weighs : Weighs s.cal.times.weights most q from settled (wrongs (moments_of s h))
  pub sent : q < from → s.cal.times.send < n
  pub whole : settled * s.cal.times.period + s.cal.times.send < length h + s.cal.times.period →
      whole_since_answer (moments_of s h) ≡ true
  pub answers : (q < from) ⊎ (settled ≤ q) → answers_in (take n (moments_of s h)) ≡ one_answer s.cal.times q n
  pub last : (settled ≡ 0) ⊎ Miss s start settled (length h)
  pub quiet : is_confirmed s.cal.times.weights (wrongs (moments_of s h)) ≡ false
  pub closed : latch2 (moments_of s h) ≡ false

-- the same of the tick x after h, before its verdict
record Goes (s : Setting) (most start : ℕ) (x : Tick) (h : List Tick) (q n from settled : ℕ) : Type 0 where
  pub judged : x.effects.wild ≡ None
  pub opens : x.effects.opens ≡ false
  pub weighs : Weighs s.cal.times.weights most q from settled (wrongs (moments_of s h))
  pub sent : q < from → s.cal.times.send < suc n
  pub whole : settled * s.cal.times.period + s.cal.times.send < suc (length h) + s.cal.times.period →
      whole_since_answer (moment s x.effects x.entry (moments_of s h) ∷ moments_of s h) ≡ true
  pub answers : (q < from) ⊎ (settled ≤ q) → with_answer (length h) (moment s x.effects x.entry (moments_of s h)).mark
      (answers_in (take n (moments_of s h))) ≡ one_answer s.cal.times q (suc n)
  pub last : (settled ≡ 0) ⊎ Miss s start settled (suc (length h))

-- ---- the verdict of a tick ----

pub no_answers : (times : TimeParts) (q : ℕ) → [] ≡ one_answer times q 0
no_answers times q = rw (le-ltb times.send 0 (omega arith)) refl

pub one_whole : (times : TimeParts) (q n : ℕ) → times.send < suc n →
    one_answer times q (suc n) ≡ right_answer times q ∷ []
one_whole times q n l = rw (lt-ltb times.send (suc n) l) refl

module _ (s : Setting) (accepted : IsAccepted s.cal) (most : ℕ) (few : most * s.cal.times.weights.up < s.cal.times.weights.limit) (start : ℕ)
    (x : Tick) (h : List Tick) (q n from settled : ℕ) (at : length h ≡ q * s.cal.times.period + n) (room : n < s.cal.times.period)
    (goes : Goes s most start x h q n from settled) (quiet : is_confirmed s.cal.times.weights (wrongs (moments_of s h)) ≡ false)
    (closed : latch2 (moments_of s h) ≡ false) where
  abbrev times : TimeParts
  times = s.cal.times

  abbrev past : List Moment
  past = moments_of s h

  abbrev now : Moment
  now = moment s x.effects x.entry past

  size : length past ≡ length h
  size = length-moments s h

  answers_now : (q < from) ⊎ (settled ≤ q) → answers_in (take (suc n) (now ∷ past)) ≡ one_answer times q (suc n)
  unfolding answers_in
  answers_now right = ap (λ t. with_answer t now.mark (answers_in (take n past)))
      ((fields s x.effects x.entry past).tick ∙ size) ∙ goes.answers right

  opens_none : now.opens ≡ false
  opens_none = (fields s x.effects x.entry past).opens ∙ goes.opens

  -- one that has none
  go_on : suc n < times.period → Recovering s most start (x ∷ h)
  unfolding moments_of
  go_on more = record {
    q = q;
    n = suc n;
    from = from;
    settled = settled;
    at = omega (arith, at);
    room = more;
    weighs = subst (Weighs times.weights most q from settled) (sym same) goes.weighs;
    sent = goes.sent;
    whole = goes.whole;
    answers = answers_now;
    last = goes.last;
    quiet = ap (is_confirmed times.weights) same ∙ quiet;
    closed = latch2-cons now past ∙ or_from _ _ (or_from _ _ unconfirmed opens_none) closed;
  }
    where
      place : (length past + 1) % times.period ≡ suc n
      place = ap (λ t. t % times.period) (next (length past) (length h) size at) ∙ mod-mul-add q times.period (suc n) more
        where
          next : (k t : ℕ) → k ≡ t → t ≡ q * times.period + n → k + 1 ≡ q * times.period + suc n
          next k t e f = omega (arith, e, f)

      none : now.verdict ≡ None
      none = (fields s x.effects x.entry past).verdict
          ∙ verdict_none times accepted.times x.effects now.mark past (omega (arith, place))

      same : wrongs (now ∷ past) ≡ wrongs past
      same = wrongs-cons now past ∙ ap (λ v. with_wrong v (wrongs past)) none ∙ (unfold with_wrong in refl)

      unconfirmed : now.confirms ≡ false
      unconfirmed = (fields s x.effects x.entry past).confirms ∙ ap (λ v. confirms_at times v past) none ∙ (unfold confirms_at in refl)

  -- one that closes a period
  close : suc n ≡ times.period → Recovering s most start (x ∷ h)
  unfolding moments_of
  close whole = record {
    q = q + 1;
    n = 0;
    from = from;
    settled = settled;
    at = ends (length h) at whole;
    room = period_least times accepted.times;
    weighs = subst (Weighs times.weights most (q + 1) from settled) (sym bits) weighs;
    sent = λ l. absurd (omega (arith, l, goes.weighs.near));
    whole = goes.whole;
    answers = λ right. (unfold answers_in in no_answers times (q + 1));
    last = goes.last;
    quiet = ap (is_confirmed times.weights) bits ∙ never_confirmed times.weights wrong (wrongs past) low quiet;
    closed = latch2-cons now past ∙ or_from _ _ (or_from _ _ unconfirmed opens_none) closed;
  }
    where
      ends : (t : ℕ) {p : ℕ} → t ≡ q * p + n → suc n ≡ p → suc t ≡ (q + 1) * p + 0
      ends t {p} e f = omega (arith, e, f)

      these : List MarkedAnswer
      these = with_answer (length past) now.mark (answers_in (take (times.period - 1) past))

      wrong : Bool
      wrong = is_wrong (verdict_of times these)

      last_one : (length past + 1) % times.period ≡ 0
      last_one = ap (λ t. t % times.period) (next (length past) (length h) size (ends (length h) at whole))
          ∙ mod-mul-add (q + 1) times.period 0 (period_least times accepted.times)
        where
          next : (k t : ℕ) {r : ℕ} → k ≡ t → suc t ≡ r → k + 1 ≡ r
          next k t e f = omega (arith, e, f)

      told : now.verdict ≡ Some (verdict_of times these)
      told = (fields s x.effects x.entry past).verdict
          ∙ verdict_some times accepted.times x.effects now.mark past goes.judged last_one

      bits : wrongs (now ∷ past) ≡ wrong ∷ wrongs past
      bits = wrongs-cons now past ∙ ap (λ v. with_wrong v (wrongs past)) told ∙ (unfold with_wrong in refl)

      -- where one good answer was sent it is right
      right : (q < from) ⊎ (settled ≤ q) → wrong ≡ false
      right may = ap (λ a. is_wrong (verdict_of times a)) (ap₂ (λ t k. with_answer t now.mark (answers_in (take k past))) size less
          ∙ goes.answers may ∙ one_whole times q n (let z = send_within times accepted.times in omega (arith, z, whole)))
          ∙ ap is_wrong (right_alone times q accepted.times) ∙ (unfold is_wrong in refl)
        where
          less : times.period - 1 ≡ n
          less = omega (arith, whole)

      weighs : Weighs times.weights most (q + 1) from settled (wrong ∷ wrongs past)
      weighs = weighs_more times.weights most q from settled (wrongs past) wrong right goes.weighs

      low : is_reached times.weights (wrong ∷ wrongs past) ≡ false
      low = never_reached times.weights most (q + 1) from settled (wrong ∷ wrongs past) few goes.weighs.near weighs

      unconfirmed : now.confirms ≡ false
      unconfirmed = (fields s x.effects x.entry past).confirms ∙ ap (λ v. confirms_at times v past) told ∙ not_yet
        where
          not_yet : confirms_at times (Some (verdict_of times these)) past ≡ false
          not_yet = unfold confirms_at wrongs is_first in and_left _ _ low

  one_more : Recovering s most start (x ∷ h)
  one_more = elim (cases_lt (suc n) times.period) [
    | inl more ↦ go_on more
    | inr whole ↦ close (omega (arith, whole, room))
  ]

-- ---- a tick at which level 2 runs ----

scaled : (a b p : ℕ) → a ≤ b → a * p ≤ b * p
scaled a b p l = grind arith

-- the send tick from which on all ran since the last answer
send_place : (settled period send t : ℕ) → send < period → settled * period + send ≡ t + period → t % period ≡ send
send_place zero period send t l e = absurd (omega (arith, l, e))
send_place (suc k) period send t l e = ap (λ u. u % period) place ∙ mod-mul-add k period send l
  where
    place : t ≡ k * period + send
    place = omega (arith, e)

miss_later : (s : Setting) (start settled now : ℕ) → (settled ≡ 0) ⊎ Miss s start settled now →
    (settled ≡ 0) ⊎ Miss s start settled (suc now)
miss_later s start settled now (inl none) = inl none
miss_later s start settled now (inr miss) = inr (record {
  tick = miss.tick;
  earlier = (let l = miss.earlier in omega (arith, l));
  counts = miss.counts;
  settles = miss.settles;
})

-- behind the send tick no answer comes
absent_answer : (s : Setting) → AreTimes s.cal.times → {most start : ℕ} (h : List Tick) (r : Recovering s most start h) (mark : AnswerMark) →
    answers_in (take r.n (moments_of s h)) ≡ one_answer s.cal.times r.q r.n → s.cal.times.send < r.n → mark ≡ Absent →
    with_answer (length h) mark (answers_in (take r.n (moments_of s h))) ≡ one_answer s.cal.times r.q (suc r.n)
unfolding with_answer
absent_answer s are h r mark one late absent = ap (λ m. with_answer (length h) m (answers_in (take r.n (moments_of s h)))) absent
    ∙ one ∙ rw (lt-ltb s.cal.times.send r.n late, lt-ltb s.cal.times.send (suc r.n) (omega (arith, late))) refl

module _ (s : Setting) (are : AreTimes s.cal.times) (most start : ℕ) (e : Entry) (h : List Tick) (r : Recovering s most start h)
    (untripped : tripped (moments_of s h) ≡ false)
    (calm : (moment s no_effects e (moments_of s h)).trip ≡ false) where
  abbrev before_plain : List Moment
  before_plain = moments_of s h

  abbrev now_plain : Moment
  now_plain = moment s no_effects e before_plain

  sends_now : r.settled * s.cal.times.period + s.cal.times.send ≡ length h + s.cal.times.period →
      is_answer now_plain.mark ≡ true
  sends_now e' = ap is_answer (fields s no_effects e before_plain).mark
      ∙ answered_plain s.cal.times now_plain.trip before_plain calm untripped
      (ap (λ t. t % s.cal.times.period) (length-moments s h)
      ∙ send_place r.settled s.cal.times.period s.cal.times.send (length h) (send_within s.cal.times are) e')

  all_ran : r.settled * s.cal.times.period + s.cal.times.send < suc (length h) + s.cal.times.period →
      whole_since_answer (now_plain ∷ before_plain) ≡ true
  all_ran late = elim (cases_lt (r.settled * s.cal.times.period + s.cal.times.send) (length h + s.cal.times.period)) [
    | inl old ↦ whole-cons now_plain before_plain ((fields s no_effects e before_plain).whole ∙ whole_plain) (r.whole old)
    | inr now ↦ (unfold whole_since_answer in or_left _ _ (sends_now (omega (arith, now, late))))
  ]

  ran_since : r.settled ≤ r.q → whole_since_answer before_plain ≡ true
  ran_since from = r.whole (let low = scaled r.settled r.q s.cal.times.period from in
      let send = send_within s.cal.times are in omega (arith, r.at, low, send))

  answered_now : (r.q < r.from) ⊎ (r.settled ≤ r.q) →
      with_answer (length h) now_plain.mark (answers_in (take r.n before_plain)) ≡ one_answer s.cal.times r.q (suc r.n)
  answered_now right = elim right [
    | inl early ↦ absent_answer s are h r now_plain.mark (r.answers (inl early)) (r.sent early) (unsent (r.sent early))
    | inr from ↦ ap₂ (with_answer (length h)) (usual from) (r.answers (inr from))
        ∙ sent_now s.cal.times r.q r.n (length h) r.room r.at
  ]
    where
      usual : r.settled ≤ r.q → now_plain.mark ≡ usual_mark s.cal.times (length h)
      usual from = (fields s no_effects e before_plain).mark
          ∙ mark_plain s.cal.times now_plain.trip before_plain calm untripped (ran_since from)
          ∙ ap (usual_mark s.cal.times) (length-moments s h)

      unsent : s.cal.times.send < r.n → now_plain.mark ≡ Absent
      unsent late = (fields s no_effects e before_plain).mark
          ∙ absent_off_place s.cal.times no_effects now_plain.trip before_plain regular
          (ap (λ t. t % s.cal.times.period == s.cal.times.send) (length-moments s h ∙ r.at)
          ∙ ap (λ t. t == s.cal.times.send) (mod-mul-add r.q s.cal.times.period r.n r.room)
          ∙ ne_eqb r.n s.cal.times.send (λ same. omega (arith, same, late)))

  plain_goes : Goes s most start (plain e) h r.q r.n r.from r.settled
  plain_goes = record {
    judged = unfold no_effects in refl;
    opens = unfold no_effects in refl;
    weighs = r.weighs;
    sent = λ early. (let l = r.sent early in omega (arith, l));
    whole = all_ran;
    answers = answered_now;
    last = miss_later s start r.settled (length h) r.last;
  }

-- ---- a tick that it misses ----

-- no answer is sent at it
pub missed_absent : (s : Setting) (e : Entry) (past : List Moment) → (moment s missed e past).mark ≡ Absent
missed_absent s e past = (fields s missed e past).mark ∙ none
  where
    none : mark_at s.cal.times missed (moment s missed e past).trip past ≡ Absent
    none = unfold mark_at is_sent missed no_effects in rw (and_right (sends_at missed s.cal.times (length past)) false refl) refl

-- Where a miss comes in period q, and the one before settled at `settled`: so many periods lie between.
far_apart : (m t q n send settled period most next : ℕ) → t ≡ q * period + n → m + (most * period + 1) ≤ t →
    settled * period + send ≤ m + 2 * period → n < period → send < period → (n ≤ send → next ≡ q) → (send < n → next ≡ q + 1) → settled + most ≤ next + 1
far_apart m t q n send settled period most next at apart settles room inside upto behind = elim (cases_lt send n) [
  | inr early ↦ (let e = upto early in let l = less (settled + most) (q + 2) period (omega (arith, at, apart, settles, early)) in omega (arith, e, l))
  | inl late ↦ (let e = behind late in let l = less (settled + most) (q + 3) period (omega (arith, at, apart, settles, room)) in omega (arith, e, l))
]
  where
    less : (a b p : ℕ) → a * p < b * p → a < b
    less a b p l = elim (cases_lt a b) [
      | inl fewer ↦ fewer
      | inr more ↦ absurd (let m = scaled b a p more in omega (arith, m, l))
    ]

module _ (s : Setting) (accepted : IsAccepted s.cal) (start : ℕ) (e : Entry) (h : List Tick)
    (lapse : SparesVerdicts s start (start + suc (length h))) (r : Recovering s lapse.most start h) (counts : misses_tick s.fault (start + length h) ≡ true) where
  -- the period of the first verdict that the miss may spoil, and of the first after those
  next : ℕ
  next = if nat_lt s.cal.times.send r.n then r.q + 1 else r.q

  settles : ℕ
  settles = if nat_lt r.n s.cal.times.send then r.q + 1 else r.q + 2

  next_upto : r.n ≤ s.cal.times.send → next ≡ r.q
  unfolding next
  next_upto l = ap (λ b. if b then r.q + 1 else r.q) (le-ltb _ _ l)

  next_behind : s.cal.times.send < r.n → next ≡ r.q + 1
  unfolding next
  next_behind l = ap (λ b. if b then r.q + 1 else r.q) (lt-ltb _ _ l)

  settles_before : r.n < s.cal.times.send → settles ≡ r.q + 1
  unfolding settles
  settles_before l = ap (λ b. if b then r.q + 1 else r.q + 2) (lt-ltb _ _ l)

  settles_from : s.cal.times.send ≤ r.n → settles ≡ r.q + 2
  unfolding settles
  settles_from l = ap (λ b. if b then r.q + 1 else r.q + 2) (le-ltb _ _ l)

  distance : (miss : Miss s start r.settled (length h)) →
      (start + miss.tick + miss_spacing_of s.cal.times ≤ start + length h) × (1 ≤ s.cal.times.weights.down)
  distance miss = lapse.apart (start + miss.tick) (start + length h) (omega arith) (omega arith) miss.counts counts
      (let e = miss.earlier in omega (arith, e))

  apart : Miss s start r.settled (length h) → r.settled + periods_between_misses s.cal.times ≤ next + 1
  unfolding miss_spacing_of
  apart miss = far_apart miss.tick (length h) r.q r.n s.cal.times.send r.settled s.cal.times.period (periods_between_misses s.cal.times) next
      r.at far miss.settles r.room (send_within s.cal.times accepted.times) next_upto next_behind
    where
      far : miss.tick + (periods_between_misses s.cal.times * s.cal.times.period + 1) ≤ length h
      far = let l = (distance miss).0 in omega (arith, l)

  next_from : r.q ≤ next
  next_from = elim (cases_lt s.cal.times.send r.n) [
    | inl l ↦ (let e = next_behind l in omega (arith, e))
    | inr l ↦ (let e = next_upto l in omega (arith, e))
  ]

  next_near : next ≤ r.q + 1
  next_near = elim (cases_lt s.cal.times.send r.n) [
    | inl l ↦ (let e = next_behind l in omega (arith, e))
    | inr l ↦ (let e = next_upto l in omega (arith, e))
  ]

  settles_some : next < settles
  settles_some = elim (cases_lt r.n s.cal.times.send) [
    | inl l ↦ (let e = settles_before l in let f = next_upto (omega (arith, l)) in omega (arith, e, f))
    | inr l ↦ (let e = settles_from l in let f = next_near in omega (arith, e, f))
  ]

  -- at the send tick two verdicts may be spoiled
  settles_near : settles ≤ next + lapse.most
  settles_near = elim (cases_lt r.n s.cal.times.send) [
    | inl l ↦ (let e = settles_before l in let f = next_upto (omega (arith, l)) in let m = lapse.some in omega (arith, e, f, m))
    | inr l ↦ elim (cases_lt s.cal.times.send r.n) [
      | inl late ↦ (let e = settles_from l in let f = next_behind late in let m = lapse.some in omega (arith, e, f, m))
      | inr at ↦ (let e = settles_from l in let f = next_upto at in
          let m : lapse.most ≡ 2 = lapse.sent (length h) (omega arith) counts (place (omega (arith, l, at))) in omega (arith, e, f, m))
    ]
  ]
    where
      place : r.n ≡ s.cal.times.send → length h % s.cal.times.period ≡ s.cal.times.send
      place same = ap (λ t. t % s.cal.times.period) r.at ∙ mod-mul-add r.q s.cal.times.period r.n r.room ∙ same

  nothing_left : greatest s.cal.times.weights (wrongs (moments_of s h)) ≤ (next - r.q) * s.cal.times.weights.down
  nothing_left = elim r.last [
    | inl none ↦ (let z = r.weighs.none none in omega (arith, z))
    | inr miss ↦ taken_back s.cal.times lapse.most r.q r.from r.settled next (wrongs (moments_of s h)) lapse.small (distance miss).1
        (let a = accepted.answers.0 in omega (arith, a)) (apart miss) next_from next_near r.weighs
  ]

  -- the verdict of a period whose send tick has passed is right
  settled_before : r.settled ≤ r.q
  unfolding periods_between_misses
  settled_before = elim r.last [
    | inl none ↦ omega (arith, none)
    | inr miss ↦ (let a = apart miss in let n = next_near in
        let p = quotient_positive (2 * s.cal.times.weights.up) s.cal.times.weights.down
        (let u = accepted.answers.0 in omega (arith, u)) (let d = (distance miss).1 in omega (arith, d)) in omega (arith, a, n, p))
  ]

  missed_goes : Goes s lapse.most start (record { effects = missed; entry = e }) h r.q r.n next settles
  missed_goes = record {
    judged = unfold missed no_effects in refl;
    opens = unfold missed no_effects in refl;
    weighs = weighs_anew s.cal.times.weights lapse.most r.q next settles (wrongs (moments_of s h)) next_from next_near settles_some settles_near nothing_left;
    sent = λ early. (let l = behind early in omega (arith, l));
    whole = λ late. absurd (not_yet late);
    answers = λ right. elim right [
      | inl early ↦ absent_answer s accepted.times h r (moment s missed e (moments_of s h)).mark (r.answers (inr settled_before)) (behind early) (missed_absent s e (moments_of s h))
      | inr past ↦ absurd (let a = settles_some in let b = next_from in omega (arith, past, a, b))
    ];
    last = inr (record {
      tick = length h;
      earlier = omega arith;
      counts = counts;
      settles = elim (cases_lt r.n s.cal.times.send) [
        | inl l ↦ (let f = ap (λ k. k * s.cal.times.period) (settles_before l) in
            let i = send_within s.cal.times accepted.times in omega (arith, f, r.at, i))
        | inr l ↦ (let f = ap (λ k. k * s.cal.times.period) (settles_from l) in omega (arith, f, r.at, l))
      ];
    });
  }
    where
      behind : r.q < next → s.cal.times.send < r.n
      behind l = elim (cases_lt s.cal.times.send r.n) [
        | inl late ↦ late
        | inr early ↦ absurd (let e = next_upto early in omega (arith, e, l))
      ]

      not_yet : settles * s.cal.times.period + s.cal.times.send < suc (length h) + s.cal.times.period → ⊥
      not_yet late = elim (cases_lt r.n s.cal.times.send) [
        | inl l ↦ (let f = ap (λ k. k * s.cal.times.period) (settles_before l) in omega (arith, f, r.at, l, late))
        | inr l ↦ (let f = ap (λ k. k * s.cal.times.period) (settles_from l) in omega (arith, f, r.at, r.room, late))
      ]

-- ---- all ticks ----

recovers_at_first : (s : Setting) → AreTimes s.cal.times → (most start : ℕ) → Recovering s most start []
unfolding moments_of wrongs verdicts_in is_confirmed latch2 whole_since_answer answers_in
recovers_at_first s are most start = record {
  q = 0;
  n = 0;
  from = 0;
  settled = 0;
  at = omega arith;
  room = period_least s.cal.times are;
  weighs = weighs_at_first s.cal.times.weights most;
  sent = λ l. absurd (omega (arith, l));
  whole = λ late. refl;
  answers = λ right. no_answers s.cal.times 0;
  last = inl refl;
  quiet = refl;
  closed = refl;
}

recovers_more : (s : Setting) → IsAccepted s.cal → (start : ℕ) (x : Tick) (h : List Tick) →
    (lapse : SparesVerdicts s start (start + suc (length h))) → x.effects ≡ effects s.fault (start + length h) → tripped (moments_of s h) ≡ false →
    (moment s x.effects x.entry (moments_of s h)).trip ≡ false → Recovering s lapse.most start h → Recovering s lapse.most start (x ∷ h)
recovers_more s accepted start x h lapse is untripped calm r = elim (lapse_tick s.fault lapse.lapse (start + length h)) [
  | inl none ↦ goes_on r.from r.settled (as_tick (λ y. Goes s lapse.most start y h r.q r.n r.from r.settled) x no_effects (is ∙ none)
      (plain_goes s accepted.times lapse.most start x.entry h r untripped
      (to_tick (λ y. (moment s y.effects y.entry (moments_of s h)).trip ≡ false) x no_effects (is ∙ none) calm)))
  | inr out ↦ (let miss = counts_as_missed s.fault (start + length h) out in
      let from = next s accepted start x.entry h lapse r miss in let settled = settles s accepted start x.entry h lapse r miss in
      goes_on from settled (as_tick (λ y. Goes s lapse.most start y h r.q r.n from settled) x missed (is ∙ out)
      (missed_goes s accepted start x.entry h lapse r miss)))
]
  where
    goes_on : (from settled : ℕ) → Goes s lapse.most start x h r.q r.n from settled → Recovering s lapse.most start (x ∷ h)
    goes_on from settled goes = one_more s accepted lapse.most lapse.few start x h r.q r.n from settled r.at r.room goes r.quiet r.closed

pub calm_now : (m : Moment) (past : List Moment) → tripped (m ∷ past) ≡ false → m.trip ≡ false
unfolding tripped
calm_now m past u = (or_parts m.trip (tripped past) u).0

-- the misses are as far apart up to an earlier tick
pub spaced_up_to : (s : Setting) (start end earlier : ℕ) → earlier ≤ end → IsSpacedLapse s start end → IsSpacedLapse s start earlier
spaced_up_to s start end earlier l lapse = record {
  has = lapse.has;
  lapse = lapse.lapse;
  spaced = λ first second from before. lapse.spaced first second from (omega arith);
}

-- so does a part of what is spared
spares_up_to : (s : Setting) (start end earlier : ℕ) → earlier ≤ end → (lapse : SparesVerdicts s start end) →
    (part : SparesVerdicts s start earlier) × (part.most ≡ lapse.most)
spares_up_to s start end earlier l lapse = (
  record {
    lapse = lapse.lapse;
    most = lapse.most;
    some = lapse.some;
    small = lapse.small;
    few = lapse.few;
    sent = λ tick before. lapse.sent tick (omega (arith, before, l));
    apart = λ first second from before. lapse.apart first second from (omega (arith, before, l));
  },
  refl,
)

pub recovering : (s : Setting) → IsAccepted s.cal → (start : ℕ) (h : List Tick) (lapse : SparesVerdicts s start (start + length h)) →
    Follows s.fault start h → tripped (moments_of s h) ≡ false → Recovering s lapse.most start h
unfolding Follows moments_of
recovering s accepted start [] lapse follows untripped = recovers_at_first s accepted.times lapse.most start
recovering s accepted start (x ∷ h) lapse follows untripped =
    let before = untripped_before (moment s x.effects x.entry (moments_of s h)) (moments_of s h) untripped in
    let part = spares_up_to s start (start + suc (length h)) (start + length h) (omega arith) lapse in
    recovers_more s accepted start x h lapse follows.0 before (calm_now _ (moments_of s h) untripped)
    (subst (λ n. Recovering s n start h) part.1 (recovering s accepted start h part.0 follows.1 before))
