-- The start-up test where nothing is out of order, and runs without one.
use Rattle.std.proofs.Common.{◌≡◌, ◌∙◌, refl, sym, ap, ap₂, subst, ℕ, zero, suc, ◌+◌, ◌-◌, ◌*◌, ◌/◌, ◌%◌, ◌≤◌, ◌<◌, true, false, List, [], ◌∷◌, All, take, length, arith, inl, inr, ◌⊎◌, Some, None, add-one}
use Rattle.std.specs.Prelude.{◌==◌}
use Rattle.std.proofs.lemmas.Bool.{cases_lt, cases_Bool, or_left, or_right, eq-eqb, eqb-true}
use Rattle.std.proofs.lemmas.List.Elements.{All-head, All-tail}
use Rattle.eg_num.specs.Windows.{WeightParts}
use Rattle.eg_answer.specs.Times.{AreTimes, feeds_to_confirm, test_ticks_of}
use Rattle.eg_answer.specs.Periods.{verdict_of}
use Rattle.eg_answer.specs.declared.marks.AnswerMark.TheVariants.{Absent}
use Rattle.eg_answer.specs.declared.marks.Verdict.TheVariants.{Wrong}
use Rattle.eg_values.specs.Calibration.{IsAccepted}
use Rattle.eg_fault.specs.Effects.{no_effects}
use Rattle.eg_fault.specs.Faults.{effects}
use Rattle.eg_model.specs.History.{Setting, Entry, Tick, Drive, Test, drives, Moment}
use Rattle.eg_model.specs.Answers.{with_answer, answers_in, verdict_at}
use Rattle.eg_model.specs.Paths.{is_told_to_open, reads_back, orders_open, latch1, latch2, path1_at, path2_at}
use Rattle.eg_model.specs.Moments.{moment_in, moments_in, moments_of}
use Rattle.eg_model.specs.Spans.{span_so_far, span_kind, has_passed, kind_at, before_at, moment_at, next_after, moments, ticks}
use Rattle.eg_model.specs.StartUp.{IsUndisturbed, TestsPass, RunsWithoutReset}
use Rattle.eg_model.proofs.TripLemmas.{latch1-cons}
use Rattle.eg_model.proofs.PeriodLemmas.{quotient, period_closes, period_open}
use Rattle.eg_model.proofs.Silence.{period_least, TrueRun, runs_on, run_confirms, wrongs, wrongs-cons, verdict_none, verdict_some, opens_when_confirmed, enough_weight}
use Rattle.eg_model.proofs.TickLemmas.{fields_in, length-moments_in}
use Rattle.eg_model.proofs.SpanLemmas.{length-run_moments, span_so_far-next}

-- ---- a tick of a test at which nothing is out of order ----

-- no answer is sent at it, and react orders path 1 open where it is told to
unmarked : (s : Setting) (x : Tick) (past : List Moment) → (moment_in Test s x.effects x.entry past).mark ≡ Absent
unfolding drives
unmarked s x past = (fields_in Test s x.effects x.entry past).mark

ordered : (s : Setting) (x : Tick) (past : List Moment) → IsUndisturbed x → length past + 1 ≡ test_ticks_of s.cal.times →
    (moment_in Test s x.effects x.entry past).orders ≡ true
unfolding orders_open is_told_to_open no_effects
ordered s x past plain last = (fields_in Test s x.effects x.entry past).orders ∙ rw plain (or_left _ _ (eq-eqb _ _ last))

-- ---- the latches after such ticks ----

abbrev AreUndisturbed : List Tick → Type 0
AreUndisturbed h = All IsUndisturbed h

-- react orders path 1 open in time
opens_1 : (s : Setting) (h : List Tick) → AreUndisturbed h → 0 < test_ticks_of s.cal.times →
    test_ticks_of s.cal.times ≤ length h → latch1 (moments_in Test s h) ≡ true
unfolding moments_in
opens_1 s [] plain some long = absurd (omega (arith, some, long))
opens_1 s (x ∷ h) plain some long = latch1-cons m past ∙ (elim (cases_lt (length h) (test_ticks_of s.cal.times)) [
  | inl now ↦ or_left _ _ (ordered s x past (All-head IsUndisturbed x h plain)
      (omega (arith, now, long, length-moments_in Test s h)))
  | inr before ↦ or_right _ _ (opens_1 s h (All-tail IsUndisturbed x h plain) some before)
])
  where
    past : List Moment
    past = moments_in Test s h

    m : Moment
    m = moment_in Test s x.effects x.entry past

-- no answer is sent
no_answers : (s : Setting) (h : List Tick) (n : ℕ) → AreUndisturbed h → answers_in (take n (moments_in Test s h)) ≡ []
unfolding moments_in answers_in
no_answers s h zero plain = refl
no_answers s [] (suc n) plain = refl
no_answers s (x ∷ h) (suc n) plain =
    ap₂ (λ mark before. with_answer (moment_in Test s x.effects x.entry (moments_in Test s h)).tick mark before)
    (unmarked s x (moments_in Test s h))
    (no_answers s h n (All-tail IsUndisturbed x h plain)) ∙ (unfold with_answer in refl)

-- so each verdict is wrong
all_wrong : (s : Setting) → AreTimes s.cal.times → (h : List Tick) → AreUndisturbed h →
    TrueRun (length h / s.cal.times.period) (wrongs (moments_in Test s h))
unfolding moments_in
all_wrong s are [] plain = rw (nothing s.cal.times.period) (unfold TrueRun in tt)
  where
    nothing : (p : ℕ) → 0 / p ≡ 0
    nothing zero = refl
    nothing (suc p) = omega arith
all_wrong s are (x ∷ h) plain = rw (← add-one, wrongs-cons m past)
    (runs_on (length h / s.cal.times.period) ((length h + 1) / s.cal.times.period) m.verdict (wrongs past)
    (all_wrong s are h (All-tail IsUndisturbed x h plain)) (grown ((length h + 1) % s.cal.times.period) refl))
  where
    past : List Moment
    past = moments_in Test s h

    m : Moment
    m = moment_in Test s x.effects x.entry past

    verdict : m.verdict ≡ verdict_at s.cal.times x.effects Absent past
    verdict = (fields_in Test s x.effects x.entry past).verdict
        ∙ ap (λ mark. verdict_at s.cal.times x.effects mark past) (unmarked s x past)

    place : (n : ℕ) → (length h + 1) % s.cal.times.period ≡ n → (length past + 1) % s.cal.times.period ≡ n
    place n e = ap (λ k. (k + 1) % s.cal.times.period) (length-moments_in Test s h) ∙ e

    wrong : (length h + 1) % s.cal.times.period ≡ 0 → m.verdict ≡ Some Wrong
    wrong ends = verdict
        ∙ verdict_some s.cal.times are x.effects Absent past
        (ap (λ g. g.wild) (All-head IsUndisturbed x h plain) ∙ (unfold no_effects in refl)) (place 0 ends)
        ∙ ap (λ these. Some (verdict_of s.cal.times (with_answer (length past) Absent these)))
        (no_answers s h (s.cal.times.period - 1) (All-tail IsUndisturbed x h plain)) ∙ of_none
      where
        of_none : Some (verdict_of s.cal.times (with_answer (length past) Absent [])) ≡ Some Wrong
        of_none = unfold verdict_of with_answer in refl

    grown : (n : ℕ) → (length h + 1) % s.cal.times.period ≡ n →
        ((m.verdict ≡ None) × ((length h + 1) / s.cal.times.period ≡ length h / s.cal.times.period))
        ⊎ (((m.verdict ≡ Some Wrong) × ((length h + 1) / s.cal.times.period ≡ suc (length h / s.cal.times.period)))
        ⊎ ((length h + 1) / s.cal.times.period ≡ 0))
    grown zero ends = inr (inl (
      wrong ends,
      period_closes s.cal.times.period (length h) (period_least s.cal.times are) ends ∙ one_more (length h / s.cal.times.period),
    ))
      where
        one_more : (n : ℕ) → n + 1 ≡ suc n
        one_more n = omega arith
    grown (suc n) open_ = inl (
      verdict ∙ verdict_none s.cal.times are x.effects Absent past (omega (arith, place (suc n) open_)),
      period_open s.cal.times.period (length h) (period_least s.cal.times are) (omega (arith, open_)),
    )

-- ---- the test is passed ----

-- both latches are open as the paths are read back
record AreOpen (past : List Moment) : Type 0 where
  pub path1 : latch1 past ≡ true
  pub path2 : latch2 past ≡ true

are_open : (s : Setting) → IsAccepted s.cal → (h : List Tick) → AreUndisturbed h →
    length h ≡ test_ticks_of s.cal.times → AreOpen (moments_in Test s h)
are_open s accepted h plain long = record {
  path1 = opens_1 s h plain some (omega (arith, long));
  path2 = opens_when_confirmed Test s h (run_confirms w n (wrongs (moments_in Test s h)) (omega (arith, accepted.answers.3))
      enough run);
}
  where
    w : WeightParts
    w = s.cal.times.weights

    n : ℕ
    n = feeds_to_confirm w

    enough : w.limit ≤ n * w.up
    enough = enough_weight w (omega (arith, accepted.answers.0))

    least : (n u l p : ℕ) → l ≤ n * u → 1 ≤ l → 2 ≤ p → 0 < n * p
    least zero u l p enough one two = absurd (omega (arith, enough, one))
    least (suc n) u l p enough one two = grind arith

    some : 0 < test_ticks_of s.cal.times
    some = unfold test_ticks_of in least n w.up w.limit s.cal.times.period enough accepted.answers.3 accepted.times.shortest

    whole : (n p l : ℕ) → 0 < p → l ≡ n * p → l / p ≡ n
    whole n p l some e = quotient p n 0 l some (omega (arith, e))

    run : TrueRun n (wrongs (moments_in Test s h))
    run = subst (λ k. TrueRun k (wrongs (moments_in Test s h)))
        (whole n s.cal.times.period (length h) (period_least s.cal.times accepted.times) (unfold test_ticks_of in long))
        (all_wrong s accepted.times h plain)

-- at the tick of that number neither path conducts
passes_now : (s : Setting) (e : Entry) (past : List Moment) → length past ≡ test_ticks_of s.cal.times → AreOpen past →
    ((moment_in Test s no_effects e past).passes ≡ true) × ((moment_in Test s no_effects e past).found.start ≡ false)
unfolding moment_in path1_at path2_at reads_back no_effects
passes_now s e past long open_ = rw (eq-eqb _ _ long, open_.path1, open_.path2) (refl, refl)

-- and at no other the test fails
fails_not : (s : Setting) (x : Tick) (past : List Moment) → (length past == test_ticks_of s.cal.times) ≡ false →
    (moment_in Test s x.effects x.entry past).found.start ≡ false
unfolding moment_in reads_back
fails_not s x past other = rw other refl

pub tests_pass : TestsPass
tests_pass s accepted x h plain = record { passes = λ long. (at_end long).0; never_fails = never }
  where
    past : List Moment
    past = moments_in Test s h

    at_end : length h ≡ test_ticks_of s.cal.times → ((moment_in Test s x.effects x.entry past).passes ≡ true) ×
        ((moment_in Test s x.effects x.entry past).found.start ≡ false)
    at_end long = subst (λ y. ((moment_in Test s y x.entry past).passes ≡ true) × ((moment_in Test s y x.entry past).found.start ≡ false))
        (sym (All-head IsUndisturbed x h plain))
        (passes_now s x.entry past (length-moments_in Test s h ∙ long)
        (are_open s accepted h (All-tail IsUndisturbed x h plain) long))

    never : (moment_in Test s x.effects x.entry past).found.start ≡ false
    never = elim (cases_Bool (length past == test_ticks_of s.cal.times)) [
      | inl e ↦ (at_end (sym (length-moments_in Test s h) ∙ eqb-true _ _ e)).1
      | inr e ↦ fails_not s x past e
    ]

-- ---- runs without a reset ----

-- these moments of a run are one drive span
record IsOneSpan (past : List Moment) : Type 0 where
  pub kind : span_kind past ≡ Drive
  pub passed : has_passed past ≡ false
  pub whole : span_so_far past ≡ past

before-same : (e : Entry) (past : List Moment) → e.drive.reset ≡ false → IsOneSpan past → before_at e.drive past ≡ past
unfolding before_at
before-same e past quiet one = rw (quiet, one.passed) one.whole

kind-same : (e : Entry) (past : List Moment) → e.drive.reset ≡ false → IsOneSpan past → kind_at e.drive past ≡ Drive
unfolding kind_at
kind-same e past quiet one = rw (quiet, one.passed) one.kind

next-same : (s : Setting) (e : Entry) (past : List Moment) → e.drive.reset ≡ false → IsOneSpan past →
    next_after s e past ≡ moment_in Drive s (effects s.fault (length past)) e past
unfolding next_after moment_at
next-same s e past quiet one = ap₂ (λ kind before. moment_in kind s (effects s.fault (length past)) e before)
    (kind-same e past quiet one) (before-same e past quiet one)

one_more : (s : Setting) (e : Entry) (past : List Moment) → e.drive.reset ≡ false → IsOneSpan past →
    IsOneSpan (next_after s e past ∷ past)
unfolding span_kind has_passed
one_more s e past quiet one = record {
  kind = ap (λ (m : Moment). m.kind) (next-same s e past quiet one) ∙ (unfold moment_in in refl);
  passed = ap (λ (m : Moment). has_passed (m ∷ past)) (next-same s e past quiet one) ∙ (unfold moment_in reads_back in refl);
  whole = span_so_far-next s e past ∙ ap (λ before. next_after s e past ∷ before) (before-same e past quiet one);
}

is_one : (s : Setting) (h : List Entry) → All (λ e. e.drive.reset ≡ false) h → IsOneSpan (moments s h)
unfolding moments
is_one s [] all = record {
  kind = unfold span_kind in refl;
  passed = unfold has_passed in refl;
  whole = unfold span_so_far in refl;
}
is_one s (e ∷ h) all = one_more s e (moments s h) (All-head (λ e. e.drive.reset ≡ false) e h all)
    (is_one s h (All-tail (λ e. e.drive.reset ≡ false) e h all))

same_moments : (s : Setting) (e : Entry) (h : List Entry) → e.drive.reset ≡ false → IsOneSpan (moments s h) →
    moments s h ≡ moments_of s (ticks s h) → moments s (e ∷ h) ≡ moments_of s (ticks s (e ∷ h))
unfolding moments ticks moments_of moments_in
same_moments s e h quiet one before = ap₂ (λ m past. m ∷ past)
    (next-same s e (moments s h) quiet one
    ∙ ap₂ (λ n past. moment_in Drive s (effects s.fault n) e past) (length-run_moments s h) before) before

pub runs_without_reset : RunsWithoutReset
runs_without_reset s [] all = unfold moments ticks moments_of moments_in in refl
runs_without_reset s (e ∷ h) all = same_moments s e h (All-head (λ e. e.drive.reset ≡ false) e h all)
    (is_one s h (All-tail (λ e. e.drive.reset ≡ false) e h all))
    (runs_without_reset s h (All-tail (λ e. e.drive.reset ≡ false) e h all))
