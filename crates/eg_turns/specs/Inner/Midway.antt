-- Beside `Midway`: what only proofs and private functions need.
use Rattle.std.specs.Prelude.{◌≡◌, ℕ, ◌+◌, ◌==◌, ◌&&◌, ◌||◌, length, if◌then◌else◌, Result, OnOk, IfOk}
use Rattle.std.specs.Option.{option_or}
use Rattle.eg_num.specs.declared.watches.Watches.{Watches}
use Rattle.eg_guard.specs.Memory.{ShownMemory, KeepsMemory}
use Rattle.eg_answer.specs.declared.modules.TheConstants.{CHECK}
use Rattle.eg_level2.specs.Words.{Words}
use Rattle.eg_level2.specs.Inputs.{Level2Parts, IsPrepared, asked_of}
use Rattle.eg_level2.specs.declared.step.Step.{Step}
use Rattle.eg_level2.specs.Modules.{step_of, finding, mirror_alone, quiet_step}
use Rattle.eg_level2.specs.Ticks.{Doing, inputs_for, after_modules}
use Rattle.eg_fault.specs.Effects.{Effects}
use Rattle.eg_turns.specs.declared.working.Task.{Task}
use Rattle.eg_host.specs.Level1.{Level1Parts}
use Rattle.eg_turns.specs.Midway.{Work, IsMidway, IsDue, IsReady, tick_step}

-- what module i orders, answers and finds, where the words before the tick are these
unfoldable pub step_at : Doing → ℕ → Words → Step
step_at d i words =
    if d.ran i
    then (if i == CHECK && d.differs then finding mirror_alone
    else step_of (inputs_for d i) i (after_modules d i words))
    else quiet_step

-- the watches of a step and of the next
unfoldable pub found_in_both : Watches → Watches → Watches
found_in_both first next = record {
  mirror = first.mirror || next.mirror;
  pedal = first.pedal || next.pedal;
  plate = first.plate || next.plate;
  load = first.load || next.load;
  speed = first.speed || next.speed;
  torque = first.torque || next.torque;
  answers = first.answers || next.answers;
  start = first.start || next.start;
}

-- what is ordered, answered and found by a step and by the next
unfoldable pub joined : Step → Step → Step
joined first next = record {
  open_path = first.open_path || next.open_path;
  answer = option_or first.answer next.answer;
  found = found_in_both first.found next.found;
}

-- The turn of this number in a tick of this task: a slice of level 1, and then the module.
pub record IsTurn {E : Type 0} (parts : Level2Parts) (x : Effects) (task : Task) (number : ℕ)
    (before after : Level1Parts) (old new : ShownMemory) (result : Result Step E) : Type 0 where
  pub midway : (w : Work) → IsDue parts x task w → IsMidway w number number before.registers old.words →
      OnOk result (IsMidway w (number + 1) (number + 1) after.registers new.words)
  pub step : (w : Work) → IsDue parts x task w → IsMidway w number number before.registers old.words →
      IfOk result (λ step. step ≡ step_at w.doing number w.words)
  pub ready : OnOk result (IsReady parts.rules after.program new.words)
  pub prepared : OnOk result (IsPrepared parts (asked_of new.words) task.prepared)
  pub keeps : KeepsMemory old new result

-- All nine slices and eight modules, in turn.
pub record RunLevels {E : Type 0} (parts : Level2Parts) (x : Effects) (task : Task)
    (before after : Level1Parts) (old new : ShownMemory) (result : Result Step E) : Type 0 where
  pub midway : (w : Work) → IsDue parts x task w → IsMidway w 0 0 before.registers old.words →
      OnOk result (IsMidway w 9 8 after.registers new.words)
  pub step : (w : Work) → IsDue parts x task w → IsMidway w 0 0 before.registers old.words →
      IfOk result (λ step. step ≡ tick_step w.doing w.words)
  pub nine : OnOk result (length task.slices ≡ 9)
  pub ready : OnOk result (IsReady parts.rules after.program new.words)
  pub keeps : KeepsMemory old new result
