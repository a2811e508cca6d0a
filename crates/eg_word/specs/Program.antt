-- The program of some words: the unit keeps the code decoded, beside the words of the memory.
use Rattle.std.specs.Prelude.{◌≡◌, ℕ, ◌<◌, ◌≤◌, List, length, slice_index, slice_index_or}
use Rattle.eg_guard.specs.declared.regions.TheConstants.{DATA}
use Rattle.eg_word.specs.declared.instruction.Instruction.{Instruction}
use Rattle.eg_word.specs.Instructions.{instruction_of}

-- The program is that of these words: 1,024 instructions, each of them the word at its address, with 0 past
-- the end of the words.
pub record IsProgramOf (words : List ℕ) (program : List Instruction) : Type 0 where
  pub count : length program ≡ DATA
  pub each : (address : ℕ) (past : Instruction) → address < DATA
      → slice_index_or program address past ≡ instruction_of (slice_index words address)

-- the program is that of some words, at most `used`
pub record IsOfFew (used : ℕ) (program : List Instruction) : Type 0 where
  pub words : List ℕ
  pub few : length words ≤ used
  pub fits : used ≤ DATA
  pub is : IsProgramOf words program
