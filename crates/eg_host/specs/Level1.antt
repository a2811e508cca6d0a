-- Level 1 as the unit keeps it, and when it is at rest.
use Rattle.std.specs.Prelude.{◌≡◌, ℕ, ◌<◌, List}
use Rattle.eg_word.specs.declared.instruction.Instruction.{Instruction}
use Rattle.eg_word.specs.declared.registers.Registers.{Registers}
use Rattle.eg_word.specs.Program.{IsProgramOf}
use Rattle.eg_word.specs.World.{View, World}
use Rattle.eg_host.specs.Slices.{world_slice}

pub record Level1Parts : Type 0 where
  pub registers : Registers
  pub program : List Instruction

-- The machine is at rest over its program: whatever else level 1 sees and has stored, a slice of more than
-- `steps` steps, and fewer than 2^16, changes nothing.
abbrev pub RestsBeyond : ℕ → List Instruction → Registers → Type 0
RestsBeyond steps program m = (view : View) (world : World) (budget : ℕ) → IsProgramOf view.image program
    → world.registers ≡ m → steps < budget → budget < 65536 → world_slice view budget world ≡ world
