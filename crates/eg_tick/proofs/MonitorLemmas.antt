-- The monitoring module at a tick of a run: a module that isn't wild was never wild before, and what it hears and judges is what the model says.
use Rattle.std.proofs.Common.{◌≡◌, ◌∙◌, refl, sym, ap, ap₂, ◌≢◌, subst, inl, inr, ℕ, zero, suc, ◌+◌, ◌-◌, ◌*◌, ◌/◌, ◌%◌, ◌≤◌, ◌<◌, Bool, true, false, not, ◌&&◌, List, [], ◌∷◌, map, take, length, is_some, Option, Some, None, arith}
use Rattle.std.specs.Prelude.{All, ◌==◌, if◌then◌else◌, IfSome, IfNone, OnSome, SomeIff, IsTrue}
use Rattle.std.proofs.Math.Nat.{mod-lt}
use Rattle.std.proofs.Math.Numerals.{add-one}
use Rattle.std.proofs.lemmas.Nat.{div-add-mod', mod-mul-add}
use Rattle.std.proofs.lemmas.Bool.{cases_Bool, eqb-true, eqb-false, or_from, or_left}
use Rattle.std.proofs.lemmas.List.Elements.{All-nil, All-cons, All-head, All-tail}
use Rattle.eg_num.specs.Windows.{is_confirmed}
use Rattle.eg_num.proofs.FirstIndexLemmas.{is_first-cons}
use Rattle.eg_answer.specs.Answers.{answer_number}
use Rattle.eg_answer.specs.Questions.{question_at}
use Rattle.eg_answer.specs.Times.{TimeParts, AreTimes}
use Rattle.eg_answer.specs.Periods.{HeardAnswer, MarkedAnswer, period_of, place_of, is_last_tick, asked, expected_number, marked, verdict_of, verdict_over, with_verdict, is_wrong}
use Rattle.eg_answer.specs.declared.questions.Question.{Question}
use Rattle.eg_answer.specs.declared.marks.AnswerMark.{AnswerMark}
use Rattle.eg_answer.specs.declared.marks.AnswerMark.TheVariants.{Absent, Good, Bad}
use Rattle.eg_answer.specs.declared.marks.Verdict.{Verdict}
use Rattle.eg_module.specs.Monitoring.{MonitorParts, HasGiven}
use Rattle.eg_module.proofs.VerdictLemmas.{period_of-other}
use Rattle.eg_fault.specs.Effects.{Effects, asked_at, asked_in}
use Rattle.eg_fault.specs.Faults.{effects}
use Rattle.eg_fault.specs.declared.class.Fault.{Fault}
use Rattle.eg_fault.proofs.ClassLemmas.{wild_stays_wild}
use Rattle.eg_model.specs.History.{Setting, Tick, SpanKind, Moment}
use Rattle.eg_model.specs.Answers.{with_answer, answers_in, verdict_at, verdicts_in, confirms_at}
use Rattle.eg_model.specs.Premises.{Follows}
use Rattle.eg_model.specs.Moments.{moment_in, moments_in}
use Rattle.eg_model.proofs.TickLemmas.{length-moments_in}
use Rattle.eg_agree.specs.Replies.{moment_after, number_expected, mark_of}
use Rattle.eg_agree.proofs.ReplyLaws.{number_expected-usual}
use Rattle.eg_tick.specs.Stands.{was_wild, IsOrderly, HoldsMonitor, HoldsSpan}
use Rattle.eg_tick.specs.Kept.{Kept}
use Rattle.eg_values.specs.Calibration.{CalibrationParts}
use Rattle.eg_tick.specs.Inner.Judging.{with_heard, Takes, IsDeaf, ComesNext}
use Rattle.eg_model.proofs.TickLemmas.{fields_in}

-- ---- wild, once it has begun ----

-- where it isn't wild at tick t of a run, it wasn't at any tick before
wild_before : (fault : Option Fault) (begin : ℕ) (h : List Tick) (t : ℕ) → Follows fault begin h → begin + length h ≤ t → (effects fault t).wild ≡ None → was_wild h ≡ false
unfolding was_wild Follows
wild_before fault begin [] t follows before tame = refl
wild_before fault begin (x ∷ h) t follows before tame =
    or_from _ _ (ap (λ (y : Effects). is_some y.wild) follows.0 ∙ ap is_some (wild_stays_wild fault (begin + length h) t (omega (arith, before)) tame))
    (wild_before fault begin h t follows.1 (omega (arith, before)) tame)

-- so it wasn't before a tick at which it isn't
never_wild : (s : Setting) (begin : ℕ) (x : Tick) (h : List Tick) → Follows s.fault begin (x ∷ h) → x.effects.wild ≡ None → was_wild h ≡ false
unfolding Follows
never_wild s begin x h follows tame =
    wild_before s.fault begin h (begin + length h) follows.1 (omega arith) (ap (λ (y : Effects). y.wild) (sym follows.0) ∙ tame)

-- ---- answers that were heard ----

with_answer-below : (tick t : ℕ) (mark : AnswerMark) (before : List MarkedAnswer) → tick < t →
    All (λ answer. answer.tick < t) before → All (λ answer. answer.tick < t) (with_answer tick mark before)
unfolding with_answer
with_answer-below tick t Absent before here all = all
with_answer-below tick t Good before here all = All-cons (λ answer. answer.tick < t) _ before here all
with_answer-below tick t Bad before here all = All-cons (λ answer. answer.tick < t) _ before here all

answers_below : (kind : SpanKind) (s : Setting) (n : ℕ) (h : List Tick) (t : ℕ) → length h ≤ t → All (λ answer. answer.tick < t) (answers_in (take n (moments_in kind s h)))
unfolding moments_in answers_in
answers_below kind s zero h t before = All-nil (λ answer. answer.tick < t)
answers_below kind s (suc n) [] t before = All-nil (λ answer. answer.tick < t)
answers_below kind s (suc n) (x ∷ h) t before =
    let is : (moment_in kind s x.effects x.entry (moments_in kind s h)).tick ≡ length h = (fields_in kind s x.effects x.entry (moments_in kind s h)).tick ∙ length-moments_in kind s h in
    with_answer-below _ t _ _ (omega (arith, is, before)) (answers_below kind s n h t (omega (arith, before)))

heard_below : (n t : ℕ) (heard : List HeardAnswer) → All (λ answer. answer.tick < t) (map (marked n) heard) → All (λ answer. answer.tick < t) heard
unfolding marked
heard_below n t [] all = All-nil (λ answer. answer.tick < t)
heard_below n t (answer ∷ before) all =
    All-cons (λ answer. answer.tick < t) answer before (All-head (λ answer. answer.tick < t) _ (map (marked n) before) all)
    (heard_below n t before (All-tail (λ answer. answer.tick < t) _ (map (marked n) before) all))

-- What a tick asks of a monitoring module that isn't wild: it has given the verdicts of the periods that are
-- over,
pub orderly_period : (kind : SpanKind) (s : Setting) (monitor : MonitorParts) (h : List Tick) → HoldsMonitor kind s monitor h → was_wild h ≡ false →
    monitor.verdicts ≡ period_of monitor.times (length h)
orderly_period kind s monitor h holds never = (holds.orderly never).period ∙ ap (λ times. period_of times (length h)) (sym holds.times)

-- and all that it has heard came before
pub orderly_later : (kind : SpanKind) (s : Setting) (monitor : MonitorParts) (h : List Tick) → HoldsMonitor kind s monitor h → was_wild h ≡ false →
    All (λ heard. heard.tick < length h) monitor.heard
orderly_later kind s monitor h holds never =
    heard_below _ (length h) monitor.heard
    (subst (λ answers. All (λ answer. answer.tick < length h) answers) (sym (holds.orderly never).heard)
    (answers_below kind s (place_of s.cal.times (length h)) h (length h) (omega arith)))

-- ---- periods ----

place_of-last : (times : TimeParts) (tick : ℕ) → AreTimes times → is_last_tick times tick ≡ true → place_of times (suc tick) ≡ 0
unfolding is_last_tick place_of
place_of-last times tick are is_last =
    ap (λ n. n % times.period) (law (tick / times.period) times.period (tick % times.period) tick (div-add-mod' tick times.period) (eqb-true _ _ is_last))
    ∙ mod-mul-add (tick / times.period + 1) times.period 0 (positive are.shortest)
  where
    positive : {n : ℕ} → 2 ≤ n → 0 < n
    positive h = omega arith

    law : (number period place tick : ℕ) → number * period + place ≡ tick → place + 1 ≡ period → suc tick ≡ (number + 1) * period + 0
    law number period place tick e h = omega arith

place_of-other : (times : TimeParts) (tick : ℕ) → AreTimes times → is_last_tick times tick ≡ false → place_of times (suc tick) ≡ suc (place_of times tick)
unfolding is_last_tick place_of
place_of-other times tick are other =
    ap (λ n. n % times.period) (law (tick / times.period) times.period (tick % times.period) tick (div-add-mod' tick times.period))
    ∙ mod-mul-add (tick / times.period) times.period (suc (tick % times.period))
    (within (tick % times.period) times.period (mod-lt tick (positive are.shortest)) (eqb-false _ _ other))
  where
    positive : {n : ℕ} → 2 ≤ n → 0 < n
    positive h = omega arith

    within : (place period : ℕ) → place < period → place + 1 ≢ period → suc place < period
    within place period h other = omega arith

    law : (number period place tick : ℕ) → number * period + place ≡ tick → suc tick ≡ number * period + suc place
    law number period place tick e = omega arith

last_place : (times : TimeParts) (tick : ℕ) → is_last_tick times tick ≡ true → times.period - 1 ≡ place_of times tick
unfolding is_last_tick
last_place times tick is_last = let end = eqb-true _ _ is_last in omega arith

expected_number-other : (times : TimeParts) (questions : List Question) (tick : ℕ) → AreTimes times → is_last_tick times tick ≡ false →
    expected_number times questions (suc tick) ≡ expected_number times questions tick
unfolding expected_number asked
expected_number-other times questions tick are other =
    ap (λ period. answer_number (question_at questions (period % length questions)).answer)
    (ap (period_of times) (sym (add-one tick)) ∙ period_of-other times tick are other)

-- ---- what is heard at a tick ----

chosen : (tick : ℕ) (good : Bool) (before : List MarkedAnswer) →
    record { tick = tick; good = good } ∷ before ≡ with_answer tick (if good then Good else Bad) before
unfolding with_answer
chosen tick true before = refl
chosen tick false before = refl

-- an answer, marked, is that of its mark
heard-marked : (tick n : ℕ) (answer : Option ℕ) (heard : List HeardAnswer) →
    map (marked n) (with_heard tick answer heard) ≡ with_answer tick (mark_of n answer) (map (marked n) heard)
unfolding with_heard with_answer mark_of marked
heard-marked tick n None heard = refl
heard-marked tick n (Some number) heard = chosen tick (number == n) (map (marked n) heard)

-- what is kept after a tick: nothing after the last tick of a period, and else what was heard
kept-marked : (times : TimeParts) (questions : List Question) (tick : ℕ) (heard kept : List HeardAnswer) (m : Moment) (past : List Moment) (given : Verdict) →
    (verdict : Option Verdict) → AreTimes times → m.tick ≡ tick →
    map (marked (expected_number times questions tick)) heard ≡ with_answer tick m.mark (answers_in (take (place_of times tick) past)) →
    SomeIff verdict (IsTrue (is_last_tick times tick)) given → IfSome verdict (λ given. kept ≡ []) → IfNone verdict (kept ≡ heard) →
    map (marked (expected_number times questions (suc tick))) kept ≡ answers_in (take (place_of times (suc tick)) (m ∷ past))
unfolding answers_in
kept-marked times questions tick heard kept m past given (Some verdict) are same told gives closed goes_on =
    ap (map (marked (expected_number times questions (suc tick)))) closed
    ∙ ap (λ place. answers_in (take place (m ∷ past))) (sym (place_of-last times tick are gives.0))
kept-marked times questions tick heard kept m past given None are same told gives closed goes_on = elim (cases_Bool (is_last_tick times tick)) [
  | inl is_last ↦ absurd (gives is_last)
  | inr other ↦
      ap (map (marked (expected_number times questions (suc tick)))) goes_on
      ∙ ap (λ n. map (marked n) heard) (expected_number-other times questions tick are other)
      ∙ told
      ∙ ap (λ t. with_answer t m.mark (answers_in (take (place_of times tick) past))) (sym same)
      ∙ ap (λ place. answers_in (take place (m ∷ past))) (sym (place_of-other times tick are other))
]

-- ---- the verdict of a tick ----

verdict-last : (times : TimeParts) (x : Effects) (mark : AnswerMark) (past : List Moment) (tick : ℕ) → length past ≡ tick → x.wild ≡ None →
    is_last_tick times tick ≡ true →
    verdict_at times x mark past ≡ Some (verdict_of times (with_answer tick mark (answers_in (take (place_of times tick) past))))
unfolding verdict_at
verdict-last times x mark past tick same tame is_last = rw (same, is_last, tame, last_place times tick is_last) refl

verdict-other : (times : TimeParts) (x : Effects) (mark : AnswerMark) (past : List Moment) (tick : ℕ) → length past ≡ tick →
    is_last_tick times tick ≡ false → verdict_at times x mark past ≡ None
unfolding verdict_at
verdict-other times x mark past tick same other = rw (same, other) refl

never : (b : Bool) (verdict : Option Verdict) → (if b && false then verdict else None) ≡ None
never true verdict = refl
never false verdict = refl

verdict-wild : (times : TimeParts) (x : Effects) (mark : AnswerMark) (past : List Moment) (asked : ℕ) → x.wild ≡ Some asked → verdict_at times x mark past ≡ None
unfolding verdict_at
verdict-wild times x mark past asked wild = rw wild (never _ _)

verdict-given : (times : TimeParts) (x : Effects) (mark : AnswerMark) (past : List Moment) (tick n : ℕ) (heard : List HeardAnswer) (verdict : Option Verdict) →
    length past ≡ tick → x.wild ≡ None → map (marked n) heard ≡ with_answer tick mark (answers_in (take (place_of times tick) past)) →
    SomeIff verdict (IsTrue (is_last_tick times tick)) (verdict_over times n heard) → verdict ≡ verdict_at times x mark past
unfolding verdict_over
verdict-given times x mark past tick n heard (Some verdict) same tame told gives =
    ap Some (gives.1 ∙ ap (verdict_of times) told) ∙ sym (verdict-last times x mark past tick same tame gives.0)
verdict-given times x mark past tick n heard None same tame told gives = elim (cases_Bool (is_last_tick times tick)) [
  | inl is_last ↦ absurd (gives is_last)
  | inr other ↦ sym (verdict-other times x mark past tick same other)
]

-- ---- wrong answers are confirmed ----

still : (now before : Bool) → now ≡ before → (now && not before) ≡ false
still true true e = refl
still false false e = refl
still true false e = cc
still false true e = cc

confirmed : (times : TimeParts) (verdict : Option Verdict) (past : List Moment) (before now : Bool) →
    before ≡ is_confirmed times.weights (map is_wrong (verdicts_in past)) →
    now ≡ is_confirmed times.weights (map is_wrong (with_verdict verdict (verdicts_in past))) →
    (now && not before) ≡ confirms_at times verdict past
unfolding confirms_at with_verdict
confirmed times None past before now was is = still now before (is ∙ sym was)
confirmed times (Some verdict) past before now was is =
    ap₂ (λ a b. a && not b) is was ∙ sym (is_first-cons times.weights (is_wrong verdict) (map is_wrong (verdicts_in past)))

-- ---- the moment of a tick, and the moments with it ----

module _ (kind : SpanKind) (s : Setting) (x : Tick) (h : List Tick) where
  abbrev m : Moment
  m = moment_after kind s x h

  abbrev past : List Moment
  past = moments_in kind s h

  moments-cons : moments_in kind s (x ∷ h) ≡ m ∷ past
  unfolding moments_in
  moments-cons = refl

  next-tick : m.tick ≡ length h
  next-tick = (fields_in kind s x.effects x.entry past).tick ∙ length-moments_in kind s h

  verdicts-cons : verdicts_in (moments_in kind s (x ∷ h)) ≡ with_verdict m.verdict (verdicts_in past)
  unfolding moments_in verdicts_in
  verdicts-cons = refl

none-more : (verdicts : List Verdict) → with_verdict None verdicts ≡ verdicts
unfolding with_verdict
none-more verdicts = refl

-- ---- a tick ----

-- what is known of a tick's verdict
pub record Hears (asks : Option ℕ) (tick : ℕ) (answer : Option ℕ) (before now : MonitorParts) (verdict : Option Verdict) : Type 0 where
  pub wild : OnSome asks (IsDeaf before now verdict)
  pub orderly : asks ≡ None → Takes tick answer before now verdict

module _ (kind : SpanKind) (s : Setting) (begin : ℕ) (x : Tick) (h : List Tick) (follows : Follows s.fault begin (x ∷ h)) (answer : Option ℕ) (before now : MonitorParts)
    (verdict : Option Verdict) (holds : HoldsMonitor kind s before h) where
  abbrev n : ℕ
  n = expected_number s.cal.times s.cal.questions (length h)

  abbrev heard : List HeardAnswer
  heard = with_heard (length h) answer before.heard

  given-on : verdict ≡ (moment_after kind s x h).verdict → ((verdicts : List Verdict) → HasGiven before verdicts → HasGiven now (with_verdict verdict verdicts)) →
      HasGiven now (verdicts_in (moments_in kind s (x ∷ h)))
  given-on told given =
      subst (HasGiven now) (ap (λ v. with_verdict v (verdicts_in (moments_in kind s h))) told ∙ sym (verdicts-cons kind s x h)) (given _ holds.given)

  module _ (marked_so : mark_of (number_expected s x.effects (length h)) answer ≡ (moment_after kind s x h).mark)
      (tame : x.effects.wild ≡ None) (takes : Takes (length h) answer before now verdict) where
    orderly-now : IsOrderly kind s before h
    orderly-now = holds.orderly (never_wild s begin x h follows tame)

    told : map (marked n) heard ≡ with_answer (length h) (moment_after kind s x h).mark (answers_in (take (place_of s.cal.times (length h)) (moments_in kind s h)))
    told =
        heard-marked (length h) n answer before.heard
        ∙ ap₂ (with_answer (length h)) (ap (λ k. mark_of k answer) (sym (number_expected-usual s x.effects (length h) tame)) ∙ marked_so) orderly-now.heard

    gives : SomeIff verdict (IsTrue (is_last_tick s.cal.times (length h))) (verdict_over s.cal.times n heard)
    gives =
        subst (λ questions. SomeIff verdict (IsTrue (is_last_tick s.cal.times (length h))) (verdict_over s.cal.times (expected_number s.cal.times questions (length h)) heard))
        holds.questions
        (subst (λ times. SomeIff verdict (IsTrue (is_last_tick times (length h))) (verdict_over times (expected_number times before.questions (length h)) heard))
        holds.times takes.gives)

    tame-verdict : verdict ≡ (moment_after kind s x h).verdict
    tame-verdict =
        verdict-given s.cal.times x.effects (moment_after kind s x h).mark (moments_in kind s h) (length h) n heard verdict (length-moments_in kind s h) tame told gives
        ∙ sym ((fields_in kind s x.effects x.entry (moments_in kind s h)).verdict)

    tame-holds : HoldsMonitor kind s now (x ∷ h)
    tame-holds = record {
      times = takes.times ∙ holds.times;
      questions = takes.questions ∙ holds.questions;
      given = given-on tame-verdict takes.given;
      orderly = λ never. record {
        period = takes.period ∙ ap (λ times. period_of times (length h + 1)) holds.times ∙ ap (period_of s.cal.times) (add-one (length h));
        heard =
            kept-marked s.cal.times s.cal.questions (length h) heard now.heard (moment_after kind s x h) (moments_in kind s h) _ verdict
            (subst AreTimes holds.times takes.are_times) (next-tick kind s x h) told gives takes.closed takes.goes_on
            ∙ ap (λ all. answers_in (take (place_of s.cal.times (suc (length h))) all)) (sym (moments-cons kind s x h));
      };
    }

  module _ (asks : ℕ) (wild : x.effects.wild ≡ Some asks) (deaf : IsDeaf before now verdict) where
    wild-verdict : verdict ≡ (moment_after kind s x h).verdict
    wild-verdict = deaf.none
        ∙ sym ((fields_in kind s x.effects x.entry (moments_in kind s h)).verdict ∙ verdict-wild s.cal.times x.effects (moment_after kind s x h).mark (moments_in kind s h) asks wild)

    wild_now : was_wild (x ∷ h) ≡ true
    unfolding was_wild
    wild_now = or_left _ _ (ap is_some wild)

    wild-holds : HoldsMonitor kind s now (x ∷ h)
    wild-holds = record {
      times = ap (λ (m : MonitorParts). m.times) deaf.unchanged ∙ holds.times;
      questions = ap (λ (m : MonitorParts). m.questions) deaf.unchanged ∙ holds.questions;
      given = given-on wild-verdict (λ verdicts given. deaf-given verdict verdicts deaf.none (subst (λ m. HasGiven m verdicts) (sym deaf.unchanged) given));
      orderly = λ never. absurd (let clash : true ≡ false = sym wild_now ∙ never in cc);
    }
      where
        deaf-given : (v : Option Verdict) (verdicts : List Verdict) → v ≡ None → HasGiven now verdicts → HasGiven now (with_verdict v verdicts)
        deaf-given v verdicts none given = subst (HasGiven now) (sym (ap (λ v. with_verdict v verdicts) none ∙ none-more verdicts)) given

  module _ (marked_so : mark_of (number_expected s x.effects (length h)) answer ≡ (moment_after kind s x h).mark)
      (hears : Hears x.effects.wild (length h) answer before now verdict) where
    either : (w : Option ℕ) → x.effects.wild ≡ w → (verdict ≡ (moment_after kind s x h).verdict) × HoldsMonitor kind s now (x ∷ h)
    either None is = (tame-verdict marked_so is (hears.orderly is), tame-holds marked_so is (hears.orderly is))
    either (Some asks) is = let deaf = subst (λ w. OnSome w (IsDeaf before now verdict)) is hears.wild in (wild-verdict asks is deaf, wild-holds asks is deaf)

-- ---- what is made of it ----

-- the number that is expected, by what a wild monitoring module asks, the times and the questions
number_of : Option ℕ → TimeParts → List Question → ℕ → ℕ
number_of asks times questions local = answer_number (question_at questions (asked_in asks times (length questions) local)).answer

module _ (kind : SpanKind) (s : Setting) (x : Tick) (h : List Tick) (fault : Option Fault) (tick local : ℕ) (answer : Option ℕ) (before : MonitorParts)
    (comes : ComesNext kind s fault tick local answer before x h) where
  pub judged : (now : MonitorParts) (verdict : Option Verdict) → Hears (effects fault tick).wild local answer before now verdict →
      (verdict ≡ (moment_after kind s x h).verdict) × HoldsMonitor kind s now (x ∷ h)
  judged now verdict hears =
      either kind s comes.begin x h comes.follows answer before now verdict comes.holds comes.marked
      (subst (λ t. Hears x.effects.wild t answer before now verdict) (sym comes.number_in_span)
      (subst (λ asks. Hears asks local answer before now verdict) comes.wild hears)) _ refl

  pub judged-opens : (opens : Bool) → opens ≡ (effects fault tick).opens → opens ≡ (moment_after kind s x h).opens
  judged-opens opens is = is ∙ comes.opens ∙ sym ((fields_in kind s x.effects x.entry (moments_in kind s h)).opens)

  number-is : (questions : List Question) → before.questions ≡ questions
      → number_of (effects fault tick).wild before.times questions local ≡ number_expected s x.effects (length h)
  unfolding number_of number_expected asked_at
  number-is questions same =
      ap (λ questions. number_of (effects fault tick).wild before.times questions local) (sym same ∙ comes.holds.questions)
      ∙ ap (λ times. number_of (effects fault tick).wild times s.cal.questions local) comes.holds.times
      ∙ ap₂ (λ asks t. number_of asks s.cal.times s.cal.questions t) comes.wild (sym comes.number_in_span)

  pub judged-mark : (mark : AnswerMark) (number asked : ℕ) (questions : List Question) → before.questions ≡ questions → mark ≡ mark_of number answer →
      number ≡ answer_number (question_at questions asked).answer → asked ≡ asked_at (effects fault tick) before.times (length questions) local →
      mark ≡ (moment_after kind s x h).mark
  unfolding number_of asked_at
  judged-mark mark number asked questions same is number_so asked_so =
      is
      ∙ ap (λ k. mark_of k answer) (number_so ∙ ap (λ i. answer_number (question_at questions i).answer) asked_so ∙ number-is questions same)
      ∙ comes.marked

  pub judged-confirms : (now : MonitorParts) (confirms was is : Bool) → HoldsMonitor kind s now (x ∷ h) → confirms ≡ (is && not was) →
      ((verdicts : List Verdict) → HasGiven before verdicts → was ≡ is_confirmed before.times.weights (map is_wrong verdicts)) →
      ((verdicts : List Verdict) → HasGiven now verdicts → is ≡ is_confirmed now.times.weights (map is_wrong verdicts)) →
      confirms ≡ (moment_after kind s x h).confirms
  judged-confirms now confirms was is holds confirms_so was_so is_so =
      confirms_so
      ∙ confirmed s.cal.times (moment_after kind s x h).verdict (moments_in kind s h) was is
      (was_so _ comes.holds.given ∙ ap (λ (times : TimeParts). is_confirmed times.weights (map is_wrong (verdicts_in (moments_in kind s h)))) comes.holds.times)
      (is_so _ holds.given
      ∙ ap (λ (times : TimeParts). is_confirmed times.weights (map is_wrong (verdicts_in (moments_in kind s (x ∷ h))))) holds.times
      ∙ ap (λ verdicts. is_confirmed s.cal.times.weights (map is_wrong verdicts)) (verdicts-cons kind s x h))
      ∙ sym ((fields_in kind s x.effects x.entry (moments_in kind s h)).confirms)

-- ---- for the controller ----

-- what a controller knows of its monitoring module as a tick begins, which comes after h in a span that
-- begins at tick `begin` of the run
module _ (kind : SpanKind) (s : Setting) (c : Kept) (begin : ℕ) (h : List Tick) (cal : c.cal ≡ s.cal) (fault : c.fault ≡ s.fault)
    (follows : Follows s.fault begin h) (count : begin + length h ≡ c.ticks)
    (holds : HoldsSpan kind s c.span c.registers c.memory.words h) where
  never-before : (effects c.fault c.ticks).wild ≡ None → was_wild h ≡ false
  never-before tame = wild_before s.fault begin h c.ticks follows (omega (arith, count))
      (ap (λ f. (effects f c.ticks).wild) (sym fault) ∙ tame)

  pub span-period : (effects c.fault c.ticks).wild ≡ None → c.span.monitor.verdicts ≡ period_of c.span.monitor.times c.span.local
  span-period tame = orderly_period kind s c.span.monitor h holds.monitor (never-before tame) ∙ ap (period_of c.span.monitor.times) (sym holds.local)

  pub span-later : (effects c.fault c.ticks).wild ≡ None → All (λ heard. heard.tick < c.span.local) c.span.monitor.heard
  span-later tame =
      subst (λ tick. All (λ heard. heard.tick < tick) c.span.monitor.heard) (sym holds.local) (orderly_later kind s c.span.monitor h holds.monitor (never-before tame))

  pub span-asked : asked_at (effects c.fault c.ticks) c.span.monitor.times (length c.cal.questions) c.span.local
      ≡ asked_at (effects s.fault c.ticks) s.cal.times (length s.cal.questions) (length h)
  span-asked =
      ap (λ times. asked_at (effects c.fault c.ticks) times (length c.cal.questions) c.span.local) holds.monitor.times
      ∙ ap (λ (parts : CalibrationParts). asked_at (effects c.fault c.ticks) s.cal.times (length parts.questions) c.span.local) cal
      ∙ ap₂ (λ f tick. asked_at (effects f c.ticks) s.cal.times (length s.cal.questions) tick) fault holds.local
