-- The number that is sent has the mark of the model's tick, under every fault.
use Rattle.std.proofs.Common.{◌≡◌, ℕ, ◌+◌, ◌≤◌, ◌<◌, ◌⊎◌, inl, inr, Bool, true, false, not, ◌&&◌, List, [], ◌∷◌, length, refl, sym, ap, subst, ◌∙◌, arith, Option, Some, None, is_some}
use Rattle.std.specs.Prelude.{if◌then◌else◌, ◌==◌}
use Rattle.std.proofs.lemmas.Bool.{false≢true, true≢false, and_parts, or_parts, or_from, not-true, cases_lt, eq-eqb, ne_eqb, eqb-true}
use Rattle.std.proofs.Math.Nat.{mod-lt, mod-eq_of_lt}
use Rattle.eg_answer.specs.Answers.{expected_of, answer_number}
use Rattle.eg_answer.specs.Modules.{AllRun, NoneRuns, OthersRun, AtMostOneIsDisturbed}
use Rattle.eg_answer.specs.Periods.{asked, expected_number as expected_number_of}
use Rattle.eg_answer.specs.Questions.{question_at}
use Rattle.eg_answer.specs.Times.{TimeParts}
use Rattle.eg_answer.specs.declared.marks.AnswerMark.TheVariants.{Absent, Good, Bad}
use Rattle.eg_values.specs.Calibration.{IsAccepted}
use Rattle.eg_level2.specs.Words.{Words}
use Rattle.eg_level2.specs.Inputs.{row_of}
use Rattle.eg_level2.specs.Modules.{number_of}
use Rattle.eg_fault.specs.Effects.{Effects, asked_in, asked_at}
use Rattle.eg_fault.specs.Faults.{effects}
use Rattle.eg_fault.specs.Running.{RunsWhole}
use Rattle.eg_level2.specs.Ticks.{Doing, answer_at}
use Rattle.eg_level2.specs.Flow.{FitsWords, IsSteady, row_asked, expected_fold, expected_number}
use Rattle.eg_level2.specs.FlowLaws.{at_react}
use Rattle.eg_level2.proofs.FlowSteps.{answer-is}
use Rattle.eg_level2.proofs.SteadyLemmas.{steady_answers, gap_answers, all_told, out_told}
use Rattle.eg_level2.proofs.RowLemmas.{fits_words}
use Rattle.eg_model.specs.History.{Setting, Entry, Tick, SpanKind, Moment}
use Rattle.eg_model.specs.Signals.{tripped}
use Rattle.eg_model.specs.Answers.{is_undisturbed, is_answer, whole_since_answer, is_sent, is_good}
use Rattle.eg_model.specs.Moments.{moment_in, moments_in}
use Rattle.eg_model.specs.Premises.{Follows}
use Rattle.eg_model.proofs.TickLemmas.{fields_in, tripped-cons}
use Rattle.eg_agree.specs.Doings.{doing_at}
use Rattle.eg_fault.specs.Faults.{IsNoneOrValid}
use Rattle.eg_agree.specs.Replies.{doing_after, IsReady, FlowMarks, moment_after, number_expected, mark_of, is_flipped, RanTogether, ReactRan, has_just_answered, KeepsFlow}
use Rattle.eg_fault.proofs.ClassLemmas.{at_most_one_is_disturbed}
use Rattle.eg_agree.proofs.MomentLemmas.{sent_in}
use Rattle.eg_agree.proofs.ReplyShapes.{shape, LeavesOneOut}
use Rattle.eg_agree.proofs.ReplySteps.{whole_same, undisturbed_same, sent_same, mark-is}

-- ---- the question that is asked ----

asked_in-below : (times : TimeParts) (count tick : ℕ) → 0 < count → (wild : Option ℕ) →
    asked_in wild times count tick < count
unfolding asked_in asked
asked_in-below times count tick some None = mod-lt _ some
asked_in-below times count tick some (Some question) = mod-lt _ some

module _ (kind : SpanKind) (s : Setting) (accepted : IsAccepted s.cal) (x : Tick) (h : List Tick) where
  abbrev place : ℕ
  place = asked_at x.effects s.cal.times (length s.cal.questions) (length h)

  place-below : place < length s.cal.questions
  unfolding asked_at
  place-below = asked_in-below s.cal.times (length s.cal.questions) (length h)
      (let two = accepted.together.two_questions in omega arith) x.effects.wild

  pub row-is : row_asked (doing_after kind s x h) ≡ (question_at s.cal.questions place).row
  unfolding row_asked row_of doing_after doing_at
  row-is = ap (λ n. (question_at s.cal.questions n).row) (mod-eq_of_lt place-below)

  pub row_fits : FitsWords s.cal.rules (row_asked (doing_after kind s x h))
  row_fits = subst (FitsWords s.cal.rules) (sym row-is)
      (fits_words s.cal.rules (question_at s.cal.questions place).row accepted.words.values
      (accepted.words.seeds place _ place-below))

  -- the number that is expected is that of the row that is asked
  pub number-is : number_expected s x.effects (length h) ≡ expected_number (doing_after kind s x h)
  unfolding number_expected expected_number expected_fold doing_after doing_at
  number-is = ap answer_number
      (accepted.together.answered place _ place-below ∙ ap (expected_of s.cal.rules) (sym row-is))

-- where no monitoring module is wild, it is the number that the period expects
pub number_expected-usual : (s : Setting) (x : Effects) (tick : ℕ) → x.wild ≡ None →
    number_expected s x tick ≡ expected_number_of s.cal.times s.cal.questions tick
unfolding number_expected expected_number_of asked_at asked_in
number_expected-usual s x tick e = rw e refl

-- ---- no flip without a trip ----

flip_trips : (kind : SpanKind) (s : Setting) (x : Effects) (e : Entry) (past : List Moment) →
    (moment_in kind s x e past).trip ≡ false → is_some x.flip ≡ false
flip_trips kind s x e past none = sym (fields_in kind s x e past).mirror
    ∙ (or_parts _ _ (or_parts _ _ (or_parts _ _ (or_parts _ _ (sym (fields_in kind s x e past).trip ∙ none)).0).0).0).0

unflipped : (kind : SpanKind) (s : Setting) (h : List Tick) → tripped (moments_in kind s h) ≡ false → is_flipped h ≡ false
unfolding moments_in is_flipped
unflipped kind s [] none = refl
unflipped kind s (x ∷ h) none =
    let parts = or_parts _ _ (sym (tripped-cons (moment_after kind s x h) (moments_in kind s h)) ∙ none) in
    or_from _ _ (flip_trips kind s x.effects x.entry (moments_in kind s h) parts.0) (unflipped kind s h parts.1)

sent_untripped : (kind : SpanKind) (s : Setting) (x : Tick) (h : List Tick) →
    sent_in kind s x.effects x.entry (moments_in kind s h) ≡ true → tripped (moments_in kind s (x ∷ h)) ≡ false
unfolding is_sent moments_in
sent_untripped kind s x h sent = tripped-cons (moment_after kind s x h) (moments_in kind s h)
    ∙ not-true _ (and_parts _ _ (and_parts _ _ sent).1).1

sent_react : (kind : SpanKind) (s : Setting) (x : Tick) (h : List Tick) →
    sent_in kind s x.effects x.entry (moments_in kind s h) ≡ true → x.effects.ran 7 ≡ true
unfolding is_sent
sent_react kind s x h sent = (and_parts _ _ (and_parts _ _ (and_parts _ _ sent).1).0).1

-- ---- which ticks ran together ----

run_as : (P : Effects → Type 0) (s : Setting) (start : ℕ) (x : Tick) (h : List Tick) →
    Follows s.fault start (x ∷ h) → P (effects s.fault (start + length h)) → P x.effects
unfolding Follows
run_as P s start x h follows p = subst P (sym follows.0) p

whole_together : (s : Setting) → RunsWhole s.fault → (start : ℕ) (h : List Tick) → Follows s.fault start h →
    RanTogether h
unfolding RanTogether Follows
whole_together s whole start [] follows = tt
whole_together s whole start (x ∷ h) follows = (
  run_as (λ x. AllRun x.ran ⊎ NoneRuns x.ran) s start x h follows (whole (start + length h)),
  whole_together s whole start h follows.1,
)

-- before the onset all run
early_together : (s : Setting) (out : LeavesOneOut s.fault) (start : ℕ) (h : List Tick) →
    Follows s.fault start h → start + length h ≤ out.onset → RanTogether h
unfolding RanTogether Follows
early_together s out start [] follows early = tt
early_together s out start (x ∷ h) follows early = (
  inl (run_as (λ y. AllRun y.ran) s start x h follows (out.before (start + length h) (omega arith))),
  early_together s out start h follows.1 (omega arith),
)

-- where it isn't react that is left out, react runs at each tick
react_ran : (s : Setting) (out : LeavesOneOut s.fault) → out.one < 7 → (start : ℕ) (h : List Tick) →
    Follows s.fault start h → ReactRan h
unfolding ReactRan Follows
react_ran s out below start [] follows = tt
react_ran s out below start (x ∷ h) follows = (
  run_as (λ x. x.ran 7 ≡ true) s start x h follows (runs (cases_lt (start + length h) out.onset)),
  react_ran s out below start h follows.1,
)
  where
    runs : (start + length h < out.onset) ⊎ (out.onset ≤ start + length h) →
        (effects s.fault (start + length h)).ran 7 ≡ true
    runs (inl early) = out.before (start + length h) early 7
    runs (inr late) = out.after (start + length h) late 7 ∙ ap not (ne_eqb 7 out.one (λ e. omega arith))

-- ---- the mark ----

mark_law : (answer : Option ℕ) (sent good : Bool) (number expected : ℕ) → is_some answer ≡ sent →
    (is_some answer ≡ true → answer ≡ Some number)
    → (sent ≡ true → (number == expected) ≡ good) →
    mark_of expected answer ≡ (if sent then (if good then Good else Bad) else Absent)
unfolding mark_of
mark_law None true good number expected same is tells = absurd (false≢true same)
mark_law None false good number expected same is tells = refl
mark_law (Some n) false good number expected same is tells = absurd (true≢false same)
mark_law (Some n) true good number expected same is tells = ap (mark_of expected) (is refl)
    ∙ ap (λ b. if b then Good else Bad) (tells refl)

module _ (kind : SpanKind) (s : Setting) (start : ℕ) (x : Tick) (h : List Tick) (w : Words)
    (g : IsReady kind s start x h w) where
  abbrev d : Doing
  d = doing_after kind s x h

  abbrev past : List Moment
  past = moments_in kind s h

  -- the number that is sent, if one is, is the expected one exactly if the model calls the answer good
  abbrev Tells : Type 0
  Tells = (number_of (at_react d w) == number_expected s x.effects (length h)) ≡ is_good x.effects past

  few : AtMostOneIsDisturbed d.disturbance
  unfolding doing_after doing_at
  few = run_as (λ y. AtMostOneIsDisturbed y.disturbance) s start x h g.follows
      (at_most_one_is_disturbed s.fault g.fault (start + length h))

  expects : (n : ℕ) → (n == number_expected s x.effects (length h)) ≡ (n == expected_number d)
  expects n = ap (λ k. n == k) (number-is kind s g.accepted x h)

  -- where all modules ran together so far, and now
  tells_all : AllRun x.effects.ran → is_flipped (x ∷ h) ≡ false → RanTogether h → Tells
  unfolding is_good is_flipped doing_after doing_at
  tells_all all unflipped together =
      let parts = or_parts _ _ unflipped in
      expects _
      ∙ steady_answers d w (whole_since_answer past) parts.0 all (row_fits kind s g.accepted x h) few
      (g.keeps.steady parts.1 together)
      ∙ ap (λ b. whole_since_answer past && b) (undisturbed_same kind s x h)
      ∙ ap (λ b. b && whole_since_answer past && is_undisturbed x.effects)
      (sym (sym (whole_same kind s x h) ∙ all_told d all))

  -- where one before react is left out now
  tells_out : (one : ℕ) → one < 7 → OthersRun one x.effects.ran → is_flipped (x ∷ h) ≡ false → w.token ≡ 0 →
      Tells
  unfolding is_good is_flipped doing_after doing_at
  tells_out one below others unflipped z =
      let parts = or_parts _ _ unflipped in
      expects _
      ∙ gap_answers d w one parts.0 others below (row_fits kind s g.accepted x h) z
      ∙ ap (λ b. b && whole_since_answer past && is_undisturbed x.effects)
      (sym (sym (whole_same kind s x h) ∙ out_told d one (omega arith) others))

  seven : (one : ℕ) → one < 8 → (one < 7) ⊎ (one ≡ 7)
  seven one below = grind arith

  by_shape : RunsWhole s.fault ⊎ LeavesOneOut s.fault → is_flipped (x ∷ h) ≡ false →
      x.effects.ran 7 ≡ true → Tells
  unfolding Follows
  by_shape (inl whole) unflipped ran =
      elim (run_as (λ y. AllRun y.ran ⊎ NoneRuns y.ran) s start x h g.follows (whole (start + length h))) [
        | inl all ↦ tells_all all unflipped (whole_together s whole start h g.follows.1)
        | inr none ↦ absurd (false≢true (sym (none 7) ∙ ran))
      ]
  by_shape (inr out) unflipped ran =
      elim (cases_lt (start + length h) out.onset) [
        | inl early ↦ tells_all
            (run_as (λ y. AllRun y.ran) s start x h g.follows (out.before (start + length h) early)) unflipped
            (early_together s out start h g.follows.1 (omega arith))
        | inr late ↦ after (run_as (λ y. OthersRun out.one y.ran) s start x h g.follows
            (out.after (start + length h) late)) (seven out.one out.below)
      ]
    where
      after : OthersRun out.one x.effects.ran → (out.one < 7) ⊎ (out.one ≡ 7) → Tells
      after others (inl below) =
          tells_out out.one below others unflipped
          (g.keeps.token (react_ran s out below start h g.follows.1))
      after others (inr is7) =
          absurd (true≢false (sym ran ∙ others 7 ∙ ap not (eq-eqb 7 out.one (sym is7))))

  number-tells : sent_in kind s x.effects x.entry past ≡ true → Tells
  number-tells sent =
      by_shape (shape s.fault g.fault) (unflipped kind s (x ∷ h) (sent_untripped kind s x h sent))
      (sent_react kind s x h sent)

  -- the mark of what is sent is the mark of the tick
  pub marks : mark_of (number_expected s x.effects (length h)) (answer_at d w) ≡ (moment_after kind s x h).mark
  marks =
      mark_law (answer_at d w) (sent_in kind s x.effects x.entry past)
      (is_good x.effects past) (number_of (at_react d w)) (number_expected s x.effects (length h))
      (sent_same kind s x h w g.trip) (answer-is d w) number-tells
      ∙ sym (mark-is kind s x h)

-- ---- between answers ----

rest_of : (w : Words) (made : ℕ) (whole : Bool) → whole ≡ true → IsSteady made whole w →
    (w.token ≡ 0) × (w.flow ≡ 255)
rest_of w made whole e steady = (steady.token, eqb-true w.flow 255 (and_parts _ _ (steady.tells ∙ e)).0)

-- after a tick that wasn't whole it is the answer of that tick from which all ran
answered_now : (m : Moment) (past : List Moment) → m.whole ≡ false → whole_since_answer (m ∷ past) ≡ true →
    is_answer m.mark ≡ true
unfolding whole_since_answer
answered_now m past part e = grind arith

module _ (kind : SpanKind) (s : Setting) (fault : IsNoneOrValid s.fault) (start : ℕ) (w : Words) where
  -- the tick isn't whole
  part_of : (one : ℕ) (x : Tick) (h : List Tick) → one < 8 → OthersRun one x.effects.ran →
      (moment_after kind s x h).whole ≡ false
  unfolding doing_after doing_at
  part_of one x h below others = (fields_in kind s x.effects x.entry (moments_in kind s h)).whole ∙ sym (whole_same kind s x h)
      ∙ out_told (doing_after kind s x h) one below others

  -- where one module is left out
  rest_out : (out : LeavesOneOut s.fault) (h : List Tick) → Follows s.fault start h → KeepsFlow kind s w h →
      is_flipped h ≡ false → whole_since_answer (moments_in kind s h) ≡ true → (w.token ≡ 0) × (w.flow ≡ 255)
  unfolding moments_in has_just_answered Follows
  rest_out out [] follows keeps unflipped whole =
      rest_of w 0 _ whole (keeps.steady unflipped (unfold RanTogether in tt))
  rest_out out (x ∷ h) follows keeps unflipped whole =
      elim (cases_lt (start + length h) out.onset) [
        | inl early ↦ rest_of w (length (x ∷ h)) _ whole
            (keeps.steady unflipped (early_together s out start (x ∷ h) follows (omega arith)))
        | inr late ↦ keeps.anew (answered_now (moment_after kind s x h) (moments_in kind s h) (part late) whole)
      ]
    where
      part : out.onset ≤ start + length h → (moment_after kind s x h).whole ≡ false
      part late = part_of out.one x h out.below
          (run_as (λ y. OthersRun out.one y.ran) s start x h follows (out.after (start + length h) late))

  -- where no word was flipped and all ran at each tick since the last answer, token and flow rest
  pub rests : (h : List Tick) → Follows s.fault start h → KeepsFlow kind s w h → is_flipped h ≡ false →
      whole_since_answer (moments_in kind s h) ≡ true → (w.token ≡ 0) × (w.flow ≡ 255)
  rests h follows keeps unflipped whole =
      elim (shape s.fault fault) [
        | inl together ↦ rest_of w (length h) _ whole
            (keeps.steady unflipped (whole_together s together start h follows))
        | inr out ↦ rest_out out h follows keeps unflipped whole
      ]

-- ---- one tick ----

pub flow_marks : FlowMarks
flow_marks kind s start x h w g = marks kind s start x h w g
