-- What level 1 and level 2 are handed at a tick of a run, and what comes of it.
use Rattle.std.specs.Prelude.{◌≡◌, ℕ, ◌+◌, ◌<◌, Option, List, ◌∷◌, length}
use Rattle.eg_fault.specs.declared.class.Fault.{Fault}
use Rattle.eg_fault.specs.Effects.{asked_at}
use Rattle.eg_values.specs.Calibration.{IsAccepted}
use Rattle.eg_word.specs.declared.registers.Registers.{Registers}
use Rattle.eg_level2.specs.Inputs.{Level2Parts}
use Rattle.eg_level2.specs.declared.step.Step.{Step}
use Rattle.eg_model.specs.History.{Setting, Tick, SpanKind}
use Rattle.eg_model.specs.Premises.{Follows}
use Rattle.eg_model.specs.Level1.{last_world}
use Rattle.eg_model.specs.Moments.{readings_at, moments_in}
use Rattle.eg_agree.specs.Doings.{phase_at}
use Rattle.eg_agree.specs.Ticking.{found_in_level2}
use Rattle.eg_agree.specs.Replies.{doing_after, words_over, moment_after, number_expected, mark_of}
use Rattle.eg_turns.specs.Midway.{Work}
use Rattle.eg_turns.specs.declared.working.Task.{Task}
use Rattle.eg_tick.specs.Stands.{HoldsLevel1, HoldsLevel2}

-- the work of tick x, which comes after h in a span of this kind
unfoldable pub work_at : SpanKind → Setting → Tick → List Tick → Work
work_at kind s x h = record {
  image = s.image;
  doing = doing_after kind s x h;
  words = words_over kind s h;
  level1 = x.effects.level1;
  slices = x.entry.slices;
  world = last_world (moments_in kind s h);
}

-- the task of tick x, which comes after h in a span of this kind
pub record IsTask (kind : SpanKind) (s : Setting) (x : Tick) (h : List Tick) (task : Task) : Type 0 where
  pub local : task.local ≡ length h
  pub phase : task.phase ≡ phase_at kind s.cal.times x.effects (length h)
  pub asked : task.asked ≡ asked_at x.effects s.cal.times (length s.cal.questions) (length h)
  pub readings : task.readings ≡ readings_at s.cal x.effects x.entry
  pub slices : x.entry.slices ≡ task.slices

-- At tick x, which comes after h in a span of this kind, from tick `begin` of the run on, level 2 is made of
-- the parts of an accepted calibration, and the memory holds what the model says of h.
pub record Serves (kind : SpanKind) (s : Setting) (x : Tick) (h : List Tick) (made : Level2Parts)
    (under : Option Fault) (given : Task) (m : Registers) (memory : List ℕ) : Type 0 where
  pub accepted : IsAccepted s.cal
  pub parts : made ≡ record { rules = s.cal.rules; questions = s.cal.questions }
  pub fault : s.fault ≡ under
  pub begin : ℕ
  pub follows : Follows s.fault begin (x ∷ h)
  pub tick : given.tick ≡ begin + length h
  pub task : IsTask kind s x h given
  pub short : length h < 20000
  pub level1 : HoldsLevel1 s m memory (moments_in kind s h)
  pub level2 : HoldsLevel2 kind s memory h

-- the memory holds what the model says of h with tick x
abbrev pub Served : SpanKind → Setting → Tick → List Tick → Registers → List ℕ → Type 0
Served kind s x h m memory =
    HoldsLevel1 s m memory (moments_in kind s (x ∷ h)) × HoldsLevel2 kind s memory (x ∷ h)

-- What the modules order, find and answer is what the model says of the tick: path 1 is ordered open where
-- the tick orders it; the watches are those of level 2; and what is sent has the mark of the tick.
pub record IsStep (kind : SpanKind) (s : Setting) (x : Tick) (h : List Tick) (step : Step) : Type 0 where
  pub order : step.open_path ≡ (moment_after kind s x h).orders
  pub found : step.found ≡ found_in_level2 (moment_after kind s x h)
  pub mark : mark_of (number_expected s x.effects (length h)) step.answer ≡ (moment_after kind s x h).mark
