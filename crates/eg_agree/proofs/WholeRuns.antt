-- Level 2 and the model agree over whole spans.
use Rattle.std.proofs.Common.{◌≡◌, ℕ, ◌+◌, Bool, true, false, List, [], ◌∷◌, length, refl, sym, ap, subst, ◌∙◌, arith}
use Rattle.std.specs.Prelude.{if◌then◌else◌, ◌==◌}
use Rattle.eg_level2.specs.Words.{Words, start}
use Rattle.eg_level2.specs.Modules.{check_step, given_up, pedal_step, permitted_step, actual_step, excess_step, pairs_step, debounce_step, react_step, module_step}
use Rattle.eg_level2.specs.Ticks.{Doing, inputs_for, after_module, after_modules, after_tick}
use Rattle.eg_model.specs.History.{Setting, Tick, SpanKind}
use Rattle.eg_model.specs.Moments.{moments_in}
use Rattle.eg_model.specs.Premises.{Follows}
use Rattle.eg_fault.specs.Classes.{ChecksFlips}
use Rattle.eg_fault.proofs.ClassLemmas.{faults_check_flips}
use Rattle.eg_values.specs.Calibration.{IsAccepted}
use Rattle.eg_agree.specs.Doings.{doing_at}
use Rattle.eg_agree.specs.Ticking.{IsTick}
use Rattle.eg_agree.specs.Replies.{doing_after, words_over, moment_after}
use Rattle.eg_agree.specs.Agreement.{WordsStand, FlowStands, EachAnswerHolds, WordsRest, last_check, LastChecksStand, LastCheckIsKept}
use Rattle.eg_agree.proofs.BoolLaws.{if-same}
use Rattle.eg_agree.proofs.HistoryLemmas.{start_law}
use Rattle.eg_agree.proofs.TickLemmas.{tick_law}
use Rattle.eg_agree.proofs.ReplySteps.{keeps_next, keeps_start}
use Rattle.eg_agree.proofs.ReplyLaws.{flow_marks, rests}

-- a flip at a tick that follows is found by the check of that tick
checks_flips : (s : Setting) (begin : ℕ) (x : Tick) (h : List Tick) → Follows s.fault begin (x ∷ h) →
    ChecksFlips x.effects
unfolding Follows
checks_flips s begin x h follows =
    subst ChecksFlips (sym follows.0) (faults_check_flips s.fault (begin + length h))

-- the words stand for every history
pub words_stand : WordsStand
unfolding Follows words_over doing_after moments_in
words_stand kind s accepted begin [] follows = start_law s
words_stand kind s accepted begin (x ∷ h) follows =
    (tick_law kind s accepted h x.effects x.entry (checks_flips s begin x h follows) (words_over kind s h)
    (words_stand kind s accepted begin h follows.1)).words

-- and a tick more of the modules is the model's
pub is_tick_over : (kind : SpanKind) (s : Setting) → IsAccepted s.cal → (begin : ℕ) (x : Tick) (h : List Tick) →
    Follows s.fault begin (x ∷ h) →
    IsTick s x.effects (doing_after kind s x h) (words_over kind s h) (moment_after kind s x h) (moments_in kind s h)
unfolding Follows doing_after
is_tick_over kind s accepted begin x h follows =
    tick_law kind s accepted h x.effects x.entry (checks_flips s begin x h follows) (words_over kind s h)
    (words_stand kind s accepted begin h follows.1)

-- so the words tell of the program flow over every history,
pub flow_stands : FlowStands
unfolding Follows words_over
flow_stands kind s accepted begin [] follows small = keeps_start kind s
flow_stands kind s accepted begin (x ∷ h) follows small =
    keeps_next kind s x h (words_over kind s h) (is_tick_over kind s accepted begin x h follows).trip (omega arith)
    (flow_stands kind s accepted begin h follows.1 (omega arith))

-- and what is sent has the mark of the model
pub each_answer_holds : EachAnswerHolds
unfolding Follows
each_answer_holds kind s accepted fault begin x h follows short =
    flow_marks kind s begin x h (words_over kind s h)
    (record {
      accepted = accepted;
      fault = fault;
      follows = follows;
      short = short;
      keeps = flow_stands kind s accepted begin h follows.1 (omega arith);
      trip = (is_tick_over kind s accepted begin x h follows).trip;
    })

pub words_rest : WordsRest
words_rest kind s accepted fault begin h follows short =
    rests kind s fault begin (words_over kind s h) h follows (flow_stands kind s accepted begin h follows short)

-- ---- the last tick of check ----

-- check notes its tick
checked_last : (d : Doing) (w : Words) → (after_module d 0 w).last ≡ (if d.ran 0 then d.tick else w.last)
unfolding after_module module_step check_step given_up inputs_for
checked_last d w = go (d.ran 0) d.differs
  where
    go : (r f : Bool) → (if r then
        (if f then given_up d.tick else module_step (inputs_for d 0) 0 w) else w).last
        ≡ (if r then d.tick else w.last)
    go true true = refl
    go true false = refl
    go false f = refl

-- no other module changes it
kept_last : (d : Doing) (i : ℕ) (w : Words) → (i == 0) ≡ false → (module_step (inputs_for d i) i w).last ≡ w.last →
    (after_module d i w).last ≡ w.last
unfolding after_module
kept_last d i w other same = rw other (if-same (λ (u : Words). u.last) (d.ran i) (module_step (inputs_for d i) i w) w _ same refl)

tick_last : (d : Doing) (w : Words) → (after_tick d w).last ≡ (if d.ran 0 then d.tick else w.last)
unfolding after_tick after_modules
tick_last d w =
    kept_last d 7 (after_modules d 7 w) refl (unfold module_step react_step inputs_for in refl)
    ∙ kept_last d 6 (after_modules d 6 w) refl (unfold module_step debounce_step inputs_for in refl)
    ∙ kept_last d 5 (after_modules d 5 w) refl (unfold module_step pairs_step inputs_for in refl)
    ∙ kept_last d 4 (after_modules d 4 w) refl (unfold module_step excess_step inputs_for in refl)
    ∙ kept_last d 3 (after_modules d 3 w) refl (unfold module_step actual_step inputs_for in refl)
    ∙ kept_last d 2 (after_modules d 2 w) refl (unfold module_step permitted_step inputs_for in refl)
    ∙ kept_last d 1 (after_modules d 1 w) refl (unfold module_step pedal_step inputs_for in refl)
    ∙ checked_last d w

pub last_check_is_kept : LastCheckIsKept
last_check_is_kept kind s x h words = tick_last (doing_after kind s x h) words ∙ (unfold doing_after doing_at in refl)

pub last_checks_stand : LastChecksStand
unfolding words_over last_check
last_checks_stand kind s [] = unfold start in refl
last_checks_stand kind s (x ∷ h) = last_check_is_kept kind s x h (words_over kind s h)
    ∙ ap (λ n. if x.effects.ran 0 then length h else n) (last_checks_stand kind s h)
