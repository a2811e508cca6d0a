-- Level 1 and level 2 at a tick: from what the memory holds of a history to what it holds of one tick more.
use Rattle.std.proofs.Common.{◌≡◌, ◌∙◌, sym, ap, ap₂, subst, ℕ, ◌<◌, Option, List, length, arith}
use Rattle.std.specs.Prelude.{is_some, Result, Ok}
use Rattle.eg_fault.specs.declared.class.Fault.{Fault}
use Rattle.eg_fault.specs.Effects.{Effects}
use Rattle.eg_fault.specs.Faults.{effects}
use Rattle.eg_guard.specs.Memory.{ShownMemory}
use Rattle.eg_word.specs.declared.registers.Registers.{Registers}
use Rattle.eg_level2.specs.Inputs.{Level2Parts}
use Rattle.eg_level2.specs.Ticks.{after_tick}
use Rattle.eg_level2.specs.declared.step.Step.{Step}
use Rattle.eg_model.specs.History.{Setting, Tick, SpanKind}
use Rattle.eg_model.specs.Premises.{Follows}
use Rattle.eg_model.specs.Moments.{moments_in}
use Rattle.eg_agree.specs.Doings.{doing_at}
use Rattle.eg_agree.specs.Ticking.{IsTick}
use Rattle.eg_fault.specs.Faults.{IsNoneOrValid}
use Rattle.eg_agree.specs.Replies.{doing_after, words_over, moment_after, number_expected, mark_of}
use Rattle.eg_agree.proofs.WholeRuns.{is_tick_over, each_answer_holds}
use Rattle.eg_tick.specs.Inner.Working.{work_at, Serves, Served, IsStep}
use Rattle.eg_turns.specs.Board.{by_tracks}
use Rattle.eg_turns.specs.Midway.{Work, rest_of, Meets, IsDue, tick_step}
use Rattle.eg_turns.specs.Working.{Holds, Works}
use Rattle.eg_host.specs.Level1.{Level1Parts}
use Rattle.eg_turns.specs.declared.working.Task.{Task}
use Rattle.eg_tick.proofs.TickLemmas.{tracks-are, level1-next, level2-next}

module _ (kind : SpanKind) (s : Setting) (x : Tick) (h : List Tick) (made : Level2Parts) (under : Option Fault) (given : Task) (m : Registers) (old : List ℕ)
    (serves : Serves kind s x h made under given m old) where
  abbrev w : Work
  w = work_at kind s x h

  -- ---- as the tick begins ----

  effects-same : x.effects ≡ effects under given.tick
  unfolding Follows
  effects-same = serves.follows.0 ∙ ap₂ effects serves.fault (sym serves.tick)

  meets : Meets made (effects under given.tick) given w.doing
  unfolding work_at doing_after doing_at
  meets = record {
    rules = ap (λ (p : Level2Parts). p.rules) (sym serves.parts);
    questions = ap (λ (p : Level2Parts). p.questions) (sym serves.parts);
    at = sym serves.task.local;
    phase_now = sym serves.task.phase;
    ran = ap (λ (y : Effects). y.ran) effects-same;
    disturbance = ap (λ (y : Effects). y.disturbance) effects-same;
    differs = ap (λ (y : Effects). is_some y.flip) effects-same;
  }

  due : IsDue made (effects under given.tick) given w
  unfolding work_at doing_after doing_at
  due = record {
    meets = meets;
    readings = sym (ap by_tracks serves.task.readings ∙ tracks-are s.cal x.effects x.entry);
    asked = sym serves.task.asked;
    level1 = ap (λ (y : Effects). y.level1) effects-same;
    budgets = serves.task.slices;
  }

  held : Holds w.image w.words w.world m old
  unfolding work_at
  held = record {
    code = serves.level1.code;
    mirrored = serves.level2.mirrored;
    words_are = serves.level2.exact;
    world_is = serves.level1.world;
  }

  -- ---- as it ends ----

  valid-still : IsNoneOrValid under → IsNoneOrValid s.fault
  valid-still = subst IsNoneOrValid (sym serves.fault)

  short-still : length h < 65535
  short-still = let short = serves.short in omega arith

  served : (n : Registers) (new : List ℕ) → IsNoneOrValid under → length given.slices ≡ 9 → Holds w.image (after_tick w.doing w.words) (rest_of w 0 w.world) n new
      → Served kind s x h n new
  served n new valid nine is = (
    level1-next kind s serves.accepted serves.begin x h serves.follows n new (ap length serves.task.slices ∙ nine) is,
    level2-next kind s serves.accepted serves.begin x h serves.follows n new (valid-still valid) short-still is,
  )

  -- ---- what it orders, finds and answers ----

  tells : IsTick s x.effects (doing_after kind s x h) (words_over kind s h) (moment_after kind s x h) (moments_in kind s h)
  tells = is_tick_over kind s serves.accepted serves.begin x h serves.follows

  stepped : (step : Step) → IsNoneOrValid under → step ≡ tick_step w.doing w.words → IsStep kind s x h step
  unfolding tick_step work_at
  stepped step valid is = record {
    order = ap (λ (t : Step). t.open_path) is ∙ tells.order;
    found = ap (λ (t : Step). t.found) is ∙ tells.found;
    mark = ap (λ (t : Step). mark_of (number_expected s x.effects (length h)) t.answer) is
        ∙ each_answer_holds kind s serves.accepted (valid-still valid) serves.begin x h serves.follows short-still;
  }

-- what a call for level 1 and level 2 says serves the tick
module _ {E : Type 0} {made : Level2Parts} {under : Option Fault} {given : Task} {before after : Level1Parts} {a b : ShownMemory} {done : Step} (valid : IsNoneOrValid under)
    (works : (let result : Result Step E = Ok done in Works made (effects under given.tick) given before after a b result))
    (kind : SpanKind) (s : Setting) (x : Tick) (h : List Tick) (serves : Serves kind s x h made under given before.registers a.words) where
  pub works-served : Served kind s x h after.registers b.words
  works-served = served kind s x h made under given _ _ serves _ _ valid works.nine
      (works.holds (work_at kind s x h) (due kind s x h made under given _ _ serves) (held kind s x h made under given _ _ serves))

  pub works-step : IsStep kind s x h done
  works-step = stepped kind s x h made under given _ _ serves done valid
      (works.step (work_at kind s x h) (due kind s x h made under given _ _ serves) (held kind s x h made under given _ _ serves))
