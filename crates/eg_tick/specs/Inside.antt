-- What a controller keeps of its private parts.
use Rattle.std.specs.Prelude.{◌≡◌, ℕ, false, List}
use Rattle.eg_answer.specs.Times.{test_ticks_of}
use Rattle.eg_values.specs.Calibration.{CalibrationParts}
use Rattle.eg_word.specs.declared.instruction.Instruction.{Instruction}
use Rattle.eg_word.specs.Program.{IsProgramOf}
use Rattle.eg_level2.specs.declared.lookup.Lookup.{Lookup}
use Rattle.eg_level2.specs.Inputs.{Level2Parts, IsLookup}
use Rattle.eg_tick.specs.Kept.{Kept}
use Rattle.eg_tick.specs.Stands.{IsController}

-- Level 2 is made of the parts of the calibration, whose times say how long a start-up test takes; the
-- program is that of the memory's code, unless memory ran out; what was looked up last is what the permit
-- table says; and all else is a controller.
pub record IsWhole (cal : CalibrationParts) (level2 : Level2Parts) (test_ticks : ℕ)
    (program : List Instruction) (lookup : Lookup) (c : Kept) : Type 0 where
  pub parts : level2 ≡ record { rules = cal.rules; questions = cal.questions }
  pub test_ticks_are : test_ticks ≡ test_ticks_of cal.times
  pub decoded : c.lost ≡ false → IsProgramOf c.memory.words program
  pub looked_up : IsLookup cal.rules lookup
  pub keeps : IsController c
