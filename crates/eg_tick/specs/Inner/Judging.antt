-- What the monitoring module makes of a tick.
use Rattle.std.specs.Prelude.{◌≡◌, ℕ, ◌+◌, List, [], ◌∷◌, length, Option, Some, None, IfSome, IfNone, SomeIff, IsTrue}
use Rattle.eg_answer.specs.Times.{AreTimes}
use Rattle.eg_answer.specs.Periods.{HeardAnswer, period_of, is_last_tick, verdict_over, with_verdict}
use Rattle.eg_answer.specs.declared.marks.Verdict.{Verdict}
use Rattle.eg_module.specs.Monitoring.{MonitorParts, HasGiven, expected_at}
use Rattle.eg_fault.specs.declared.class.Fault.{Fault}
use Rattle.eg_fault.specs.Faults.{effects}
use Rattle.eg_model.specs.History.{Setting, Tick, SpanKind, Moment}
use Rattle.eg_model.specs.Premises.{Follows}
use Rattle.eg_agree.specs.Replies.{moment_after, number_expected, mark_of}
use Rattle.eg_tick.specs.Stands.{HoldsMonitor}
use Rattle.eg_tick.specs.declared.monitoring.Judgement.{Judgement}

-- ---- the monitoring module at a tick ----

-- the answers that were heard, and the number that comes at this tick, if one does
unfoldable pub with_heard : ℕ → Option ℕ → List HeardAnswer → List HeardAnswer
with_heard tick None heard = heard
with_heard tick (Some number) heard = record { tick = tick; number = number } ∷ heard

-- A monitoring module that isn't wild hears the answer of a tick. At the last tick of a period it gives the
-- verdict over the answers that it has heard in the period, and forgets them.
pub record Takes (tick : ℕ) (answer : Option ℕ) (before now : MonitorParts)
    (verdict : Option Verdict) : Type 0 where
  pub times : now.times ≡ before.times
  pub are_times : AreTimes before.times
  pub questions : now.questions ≡ before.questions
  pub period : now.verdicts ≡ period_of before.times (tick + 1)
  pub gives : SomeIff verdict (IsTrue (is_last_tick before.times tick))
      (verdict_over before.times (expected_at before tick) (with_heard tick answer before.heard))
  pub closed : IfSome verdict (λ given. now.heard ≡ [])
  pub goes_on : IfNone verdict (now.heard ≡ with_heard tick answer before.heard)
  pub given : (verdicts : List Verdict) → HasGiven before verdicts →
      HasGiven now (with_verdict verdict verdicts)

-- a wild monitoring module hears nothing and gives no verdict
pub record IsDeaf (before now : MonitorParts) (verdict : Option Verdict) : Type 0 where
  pub unchanged : now ≡ before
  pub none : verdict ≡ None

-- ---- a tick of a run ----

-- Tick x comes after h in a span of this kind, from tick `begin` of the run on, and has this number in the
-- span. Under the fault the monitoring module is as wild at it as the tick says. The monitoring module is as
-- the model says of h, and what level 2 answers at the tick has the mark of the model.
pub record ComesNext (kind : SpanKind) (s : Setting) (fault : Option Fault) (tick local : ℕ)
    (answer : Option ℕ) (monitor : MonitorParts) (x : Tick) (h : List Tick) : Type 0 where
  pub wild : (effects fault tick).wild ≡ x.effects.wild
  pub opens : (effects fault tick).opens ≡ x.effects.opens
  pub begin : ℕ
  pub follows : Follows s.fault begin (x ∷ h)
  pub number_in_span : length h ≡ local
  pub marked : mark_of (number_expected s x.effects (length h)) answer
      ≡ (moment_after kind s x h).mark
  pub holds : HoldsMonitor kind s monitor h

-- what was made of a tick is what the model says of it
pub record Tells (judgement : Judgement) (m : Moment) : Type 0 where
  pub mark : judgement.mark ≡ m.mark
  pub verdict : judgement.verdict ≡ m.verdict
  pub confirms : judgement.confirms ≡ m.confirms
  pub opens : judgement.opens ≡ m.opens
