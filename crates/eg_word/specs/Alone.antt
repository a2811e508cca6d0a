-- A step that loads and stores nothing, so that the program and the registers alone say what it makes.
use Rattle.std.specs.Prelude.{ℕ, Bool, true, false, if◌then◌else◌, nat_lt, List, slice_index_or, Option, Some, None}
use Rattle.eg_guard.specs.declared.regions.TheConstants.{DATA}
use Rattle.eg_word.specs.declared.registers.Registers.{Registers}
use Rattle.eg_word.specs.declared.instruction.Instruction.{Instruction}
use Rattle.eg_word.specs.declared.instruction.Instruction.TheVariants.{Nop, Ld, St}
use Rattle.eg_word.specs.Machine.{effect}

unfoldable pub needs_memory : Instruction → Bool
needs_memory (Ld a b n) = true
needs_memory (St a b n) = true
needs_memory _ = false

-- the instruction at an address of the code
unfoldable pub instruction_at : List Instruction → ℕ → Option Instruction
instruction_at program address =
    if nat_lt address DATA then Some (slice_index_or program address Nop) else None

-- the registers after an instruction that needs no memory
unfoldable pub after_alone : Registers → Option Instruction → Option Registers
after_alone m None = None
after_alone m (Some it) = if needs_memory it then None else Some (effect (λ address. None) m it).registers

-- none, if the instruction at pc needs the memory or lies outside the code
abbrev pub alone : List Instruction → Registers → Option Registers
alone program m = after_alone m (instruction_at program m.pc)
