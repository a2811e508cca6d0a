-- One tick more: what level 2 sends against the model's mark, and what the words tell after it.
use Rattle.std.proofs.Common.{arith, ◌≡◌, suc, ◌<◌, ◌⊎◌, Bool, true, false, not, ◌&&◌, ◌||◌, List, ◌∷◌, length, refl, sym, ap, ap₂, subst, ◌∙◌, is_some}
use Rattle.std.specs.Prelude.{if◌then◌else◌}
use Rattle.std.proofs.lemmas.Bool.{false≢true, and_parts, or_parts}
use Rattle.eg_answer.specs.Modules as eight
use Rattle.eg_answer.specs.declared.marks.AnswerMark.TheVariants.{Absent, Good, Bad}
use Rattle.eg_level2.specs.Words.{Words, is_set, start}
use Rattle.eg_level2.specs.Modules.{answers_now}
use Rattle.eg_fault.specs.Effects.{sends_at}
use Rattle.eg_level2.specs.Ticks.{Doing, after_tick, answer_at}
use Rattle.eg_level2.specs.Flow as flow
use Rattle.eg_level2.specs.Flow.{IsSteady}
use Rattle.eg_level2.specs.FlowLaws.{at_react}
use Rattle.eg_level2.proofs.FlowSteps.{answers, flow-after, react_clears}
use Rattle.eg_level2.proofs.SteadyLemmas.{steady_stays, start_steady}
use Rattle.eg_model.specs.History.{Setting, Tick, SpanKind, drives, Moment}
use Rattle.eg_model.specs.Signals.{tripped}
use Rattle.eg_model.specs.Answers.{is_whole, is_undisturbed, is_answer, whole_since_answer, is_sent, is_good}
use Rattle.eg_model.specs.Moments.{moments_in}
use Rattle.eg_model.proofs.TickLemmas.{length-moments_in, fields_in, tripped-cons}
use Rattle.eg_agree.specs.Doings.{doing_at}
use Rattle.eg_agree.proofs.MomentLemmas.{phase-tells, sent_in, moment_in-mark, moment_in-answer}
use Rattle.eg_agree.specs.Replies.{doing_after, moment_after, WordTellsTrip, is_flipped, RanTogether, ReactRan, has_just_answered, KeepsFlow, FlowBegins, FlowIsKept}

-- ---- Bool alone ----

in_turn : (r driven due t : Bool) → (r && ((driven && due) && not t)) ≡ (driven && (due && r && not t))
in_turn r driven due t = grind arith

module _ (kind : SpanKind) (s : Setting) (x : Tick) (h : List Tick) where
  abbrev past : List Moment
  past = moments_in kind s h

  abbrev m : Moment
  m = moment_after kind s x h

  abbrev d : Doing
  d = doing_after kind s x h

  abbrev sent : Bool
  sent = sent_in kind s x.effects x.entry past

  -- ---- what is the same on both sides ----

  pub whole_same : flow.is_whole d ≡ is_whole x.effects
  unfolding flow.is_whole eight.modules_before_react eight.modules is_whole doing_after doing_at
  whole_same = refl

  pub undisturbed_same : flow.is_undisturbed d ≡ is_undisturbed x.effects
  unfolding flow.is_undisturbed eight.modules_before_react eight.modules is_undisturbed doing_after doing_at
  undisturbed_same = refl

  answers_as_sent : (w : Words) → WordTellsTrip kind s w x h → (d.ran 7 && answers_now d.phase (at_react d w)) ≡ sent
  unfolding answers_now is_sent doing_after doing_at
  answers_as_sent w told =
      ap (λ sends. x.effects.ran 7 && (sends && not (is_set (at_react d w).trip)))
      (phase-tells kind s.cal.times x.effects (length h)).sends
      ∙ in_turn _ _ _ (is_set (at_react d w).trip)
      ∙ ap (λ t. drives kind && (sends_at x.effects s.cal.times (length h) && x.effects.ran 7 && not t))
      (told ∙ tripped-cons m past)
      ∙ ap (λ n. drives kind &&
      (sends_at x.effects s.cal.times n && x.effects.ran 7 && not (m.trip || tripped past)))
      (sym (length-moments_in kind s h))

  -- an answer is sent exactly if the model has one
  pub sent_same : (w : Words) → WordTellsTrip kind s w x h → is_some (answer_at d w) ≡ sent
  sent_same w told = answers d w ∙ answers_as_sent w told

  pub mark-is : m.mark ≡ (if sent then (if is_good x.effects past then Good else Bad) else Absent)
  mark-is = moment_in-mark kind s x.effects x.entry past

  pub answer-is : is_answer m.mark ≡ sent
  answer-is = moment_in-answer kind s x.effects x.entry past

  since_answer : (w : Words) → WordTellsTrip kind s w x h →
      flow.whole_after d w (whole_since_answer past) ≡ whole_since_answer (m ∷ past)
  unfolding flow.whole_after whole_since_answer
  since_answer w told = ap₂ (λ a b. a || (b && whole_since_answer past)) (sent_same w told ∙ sym answer-is)
      (whole_same ∙ sym (fields_in kind s x.effects x.entry past).whole)

  -- ---- what the words tell after it ----

  all_or_none : RanTogether (x ∷ h) → eight.AllRun d.ran ⊎ eight.NoneRuns d.ran
  unfolding RanTogether doing_after doing_at
  all_or_none together = together.0

  unflipped_now : is_flipped (x ∷ h) ≡ false → (d.differs ≡ false) × (is_flipped h ≡ false)
  unfolding is_flipped doing_after doing_at
  unflipped_now e = or_parts _ _ e

  next_steady : (w : Words) → WordTellsTrip kind s w x h → length h < 65535 → KeepsFlow kind s w h →
      is_flipped (x ∷ h) ≡ false → RanTogether (x ∷ h) →
      IsSteady (suc (length h)) (whole_since_answer (m ∷ past)) (after_tick d w)
  unfolding RanTogether doing_after doing_at
  next_steady w told small keeps unflipped together =
      let parts = unflipped_now unflipped in
      subst (λ whole. IsSteady (suc (length h)) whole (after_tick d w)) (since_answer w told)
      (steady_stays d w (whole_since_answer past) small parts.0 (all_or_none together)
      (keeps.steady parts.1 together.1))

  reacts : ReactRan (x ∷ h) → d.ran 7 ≡ true
  unfolding ReactRan doing_after doing_at
  reacts ran = ran.0

  -- where an answer was sent the token and the flow begin anew
  begins_anew : (w : Words) → WordTellsTrip kind s w x h → is_answer m.mark ≡ true →
      ((after_tick d w).token ≡ 0) × ((after_tick d w).flow ≡ 255)
  begins_anew w told answer =
      let some : is_some (answer_at d w) ≡ true = sent_same w told ∙ sym answer-is ∙ answer in
      let ran : d.ran 7 ≡ true = (and_parts _ _ (sym (answers d w) ∙ some)).0 in
      (react_clears d w ran, flow-after d w ∙ rw some refl)

  -- one tick keeps what the words tell
  pub keeps_next : (w : Words) → WordTellsTrip kind s w x h → length h < 65535 → KeepsFlow kind s w h →
      KeepsFlow kind s (after_tick (doing_after kind s x h) w) (x ∷ h)
  unfolding moments_in has_just_answered
  keeps_next w told small keeps = record {
    steady = next_steady w told small keeps;
    token = λ ran. react_clears d w (reacts ran);
    anew = begins_anew w told;
  }

-- at the start they tell nothing wrong
pub keeps_start : FlowBegins
unfolding start moments_in whole_since_answer has_just_answered
keeps_start kind s = record {
  steady = λ unflipped together. start_steady;
  token = λ ran. refl;
  anew = λ answer. absurd (false≢true answer);
}

pub keeps_tick : FlowIsKept
keeps_tick kind s x h w told small keeps = keeps_next kind s x h w told small keeps
