-- Level 1's machine over a guarded memory (C23).
use Rattle.std.specs.Prelude.{ℕ, Bool, true, false, if◌then◌else◌, List, slice_index, slice_set, Option, Some, None}
use Rattle.eg_guard.specs.declared.regions.Who.TheVariants.{Level1}
use Rattle.eg_guard.specs.declared.regions.Region.{Region}
use Rattle.eg_guard.specs.declared.regions.Region.TheVariants.{Data, OutPorts}
use Rattle.eg_guard.specs.Regions.{access}
use Rattle.eg_word.specs.declared.registers.Registers.{Registers}
use Rattle.eg_word.specs.Machine.{step}

-- C23
unfoldable pub load_from : List ℕ → ℕ → Option ℕ
load_from words address = if (access Level1 address).load then Some (slice_index words address) else None

abbrev pub put : List ℕ → Option (ℕ × ℕ) → List ℕ
put words None = words
put words (Some stored) = slice_set words stored.0 stored.1

abbrev pub registers_after : List ℕ → Registers → Registers
registers_after words m = (step (load_from words) m).registers

abbrev pub words_after : List ℕ → Registers → List ℕ
words_after words m = put words (step (load_from words) m).stored

-- C23
unfoldable pub is_level1_own : Region → Bool
is_level1_own Data = true
is_level1_own OutPorts = true
is_level1_own _ = false
