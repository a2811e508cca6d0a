-- What level 1 and level 2 make of the memory at a tick, and how they begin.
use Rattle.std.specs.Prelude.{◌≡◌, ℕ, ◌<◌, List, length, slice_index, Result, OnOk, IfOk}
use Rattle.eg_guard.specs.declared.regions.TheConstants.{DATA}
use Rattle.eg_guard.specs.Memory.{ShownMemory, KeepsMemory}
use Rattle.eg_fault.specs.Effects.{Effects}
use Rattle.eg_word.specs.declared.registers.Registers.{Registers}
use Rattle.eg_word.specs.Program.{IsProgramOf}
use Rattle.eg_word.specs.World.{World, world_of}
use Rattle.eg_level2.specs.Words.{Words, AreMirrored, words_of}
use Rattle.eg_level2.specs.Inputs.{Level2Parts}
use Rattle.eg_level2.specs.Ticks.{after_tick}
use Rattle.eg_level2.specs.declared.step.Step.{Step}
use Rattle.eg_turns.specs.Midway.{Work, rest_of, IsDue, tick_step}
use Rattle.eg_turns.specs.declared.working.Task.{Task}
use Rattle.eg_host.specs.Level1.{Level1Parts}

-- With level 1's machine the memory holds this: the code is the image, with 0 past its end; the sixteen words
-- of level 2 are these, each with its complement; and level 1's world is this one.
pub record Holds (image : List ℕ) (words : Words) (world : World) (m : Registers)
    (memory : List ℕ) : Type 0 where
  pub code : (k : ℕ) → k < DATA → slice_index memory k ≡ slice_index image k
  pub mirrored : AreMirrored memory
  pub words_are : words_of memory ≡ words
  pub world_is : world_of m memory ≡ world

-- A tick of this task, with what is out of order at it: where the memory holds what the work begins with, it
-- then holds the words that the eight modules make of them and the world that the nine slices make of it, and
-- what is answered is what the modules order, answer and find.
pub record Works {E : Type 0} (parts : Level2Parts) (x : Effects) (task : Task) (before after : Level1Parts)
    (old new : ShownMemory) (result : Result Step E) : Type 0 where
  pub holds : (w : Work) → IsDue parts x task w →
      Holds w.image w.words w.world before.registers old.words →
      OnOk result (Holds w.image (after_tick w.doing w.words) (rest_of w 0 w.world)
      after.registers new.words)
  pub step : (w : Work) → IsDue parts x task w →
      Holds w.image w.words w.world before.registers old.words →
      IfOk result (λ step. step ≡ tick_step w.doing w.words)
  pub nine : OnOk result (length task.slices ≡ 9)
  pub program : OnOk result (IsProgramOf new.words after.program)
  pub keeps : KeepsMemory old new result
