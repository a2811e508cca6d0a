-- Level 1 and level 2 as a run or a span begins.
use Rattle.std.proofs.Common.{◌≡◌, ◌∙◌, sym, ap, subst, inl, inr, ℕ, ◌+◌, ◌≤◌, ◌<◌, true, false, List, length, replicate, slice_index, arith}
use Rattle.std.proofs.lemmas.Bool.{cases_lt}
use Rattle.std.proofs.lemmas.List.{get_or_past, get_or-replicate}
use Rattle.eg_guard.specs.Regions.{region_of}
use Rattle.eg_guard.specs.Memory.{AreWords, SameOutside}
use Rattle.eg_guard.proofs.AccessLemmas.{code-is}
use Rattle.eg_guard.proofs.WordsLemmas.{zeros_are_words}
use Rattle.eg_answer.specs.declared.rules.Rules.{Rules}
use Rattle.eg_word.specs.declared.instruction.Instruction.{Instruction}
use Rattle.eg_word.specs.declared.registers.Registers.{Registers}
use Rattle.eg_word.specs.Memory.{is_level1_own}
use Rattle.eg_word.specs.Program.{IsProgramOf}
use Rattle.eg_word.specs.World.{world_of, new_registers, new_world}
use Rattle.eg_word.proofs.ProgramLemmas.{program-stays}
use Rattle.eg_word.proofs.WorldLemmas.{world_of-elsewhere, world_of-new}
use Rattle.eg_level2.specs.Words.{words_of, start, AreMirrored, AreWithin, is_level2_own}
use Rattle.eg_turns.specs.Board.{IsWritten}
use Rattle.eg_turns.specs.Midway.{IsReady}
use Rattle.eg_turns.specs.Working.{Holds}
use Rattle.eg_turns.proofs.FrameLemmas.{level1_leaves, level2_leaves, world-stays, code-stays}

-- ---- the image ----

module _ (image new : List ℕ) (fits : length image ≤ 1024) (are : AreWords new) (so : IsWritten (replicate 4096 0) new 0 image (length image)) where
  loaded-code : (k : ℕ) → k < 1024 → slice_index new k ≡ slice_index image k
  loaded-code k within = elim (cases_lt k (length image)) [
    | inl inside ↦ let place : 0 + k ≡ k = omega arith in sym (ap (slice_index new) place) ∙ so.told k inside
    | inr past ↦ so.elsewhere k (inr (omega (arith, past))) ∙ zero_at k within ∙ sym (get_or_past image k 0 past)
  ]
    where
      zero_at : (k : ℕ) → k < 1024 → slice_index (replicate 4096 0) k ≡ 0
      zero_at k within = get_or-replicate 4096 k 0 0 (omega (arith, within))

  beyond : (address : ℕ) → is_level1_own (region_of address) ≡ true → 1024 ≤ address
  unfolding is_level1_own
  beyond address own = elim (cases_lt address 1024) [
    | inl below ↦ absurd (let clash : false ≡ true = sym (ap is_level1_own (code-is address below)) ∙ own in cc)
    | inr from ↦ from
  ]

  loaded-world : world_of new_registers new ≡ new_world
  loaded-world = world_of-elsewhere new_registers (replicate 4096 0) new zeros_are_words are
      (λ address own. let from = beyond address own in so.elsewhere address (inr (omega arith))) ∙ world_of-new

-- ---- level 2's words, put to their start ----

module _ (cleared memory : List ℕ) (m : Registers) (are_old : AreWords cleared) (are : AreWords memory) (resets : SameOutside is_level2_own cleared memory)
    (mirrored : AreMirrored memory) (words : words_of memory ≡ start) (fresh : m ≡ new_registers) where
  pub held : (image : List ℕ) → ((k : ℕ) → k < 1024 → slice_index cleared k ≡ slice_index image k) → world_of new_registers cleared ≡ new_world
      → Holds image start new_world m memory
  held image code world = record {
    code = λ k within. code-stays is_level2_own level2_leaves cleared memory resets k within ∙ code k within;
    mirrored = mirrored;
    words_are = words;
    world_is = ap (λ r. world_of r memory) fresh ∙ world-stays new_registers cleared memory are_old are resets ∙ world;
  }

  -- in a memory of 0s in which the image was loaded
  pub held_new : (old image : List ℕ) → old ≡ replicate 4096 0 → length image ≤ 1024 → IsWritten old cleared 0 image (length image)
      → Holds image start new_world m memory
  held_new old image zeros fits written =
      let so : IsWritten (replicate 4096 0) cleared 0 image (length image) = subst (λ o. IsWritten o cleared 0 image (length image)) zeros written in
      held image (loaded-code image cleared fits are_old so) (loaded-world image cleared fits are_old so)

  -- where a span begins, in a memory in which level 1's data and outputs were cleared
  pub held_again : (old image : List ℕ) → SameOutside is_level1_own old cleared → ((k : ℕ) → k < 1024 → slice_index old k ≡ slice_index image k)
      → world_of new_registers cleared ≡ new_world → Holds image start new_world m memory
  held_again old image clears code world = held image (λ k within. code-stays is_level1_own level1_leaves old cleared clears k within ∙ code k within) world

  -- and it stays ready
  pub ready_again : (rules : Rules) (program kept : List Instruction) (old : List ℕ) → kept ≡ program → SameOutside is_level1_own old cleared
      → AreWithin rules (words_of memory) → IsReady rules program old → IsReady rules kept memory
  ready_again rules program kept old same clears within ready = record {
    are_words = are;
    mirrored = mirrored;
    within = within;
    decoded = subst (IsProgramOf memory) (sym same) (program-stays old memory program
        (λ k below. code-stays is_level2_own level2_leaves cleared memory resets k below
        ∙ code-stays is_level1_own level1_leaves old cleared clears k below) ready.decoded);
  }
