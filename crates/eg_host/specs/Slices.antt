-- A slice of level 1 (C20). A call for a slice changes no word outside level 1's own regions.
use Rattle.std.specs.Prelude.{◌≡◌, ℕ, zero, suc, ◌+◌, ◌<◌, List, [], ◌∷◌, Result, OnOk, OnErr}
use Rattle.eg_guard.specs.Memory.{ShownMemory, SameOutside, KeepsMemory}
use Rattle.eg_word.specs.declared.registers.Trap.{Trap}
use Rattle.eg_word.specs.declared.registers.State.{State}
use Rattle.eg_word.specs.declared.registers.State.TheVariants.{Running, Waiting, Trapped}
use Rattle.eg_word.specs.declared.registers.Registers.{Registers}
use Rattle.eg_word.specs.Memory.{is_level1_own}
use Rattle.eg_word.specs.World.{View, World, Shows, world_of, world_step}

-- C20
unfoldable pub wake : State → State
wake Running = Running
wake Waiting = Running
wake (Trapped trap) = Trapped trap

abbrev pub slice_start : Registers → Registers
slice_start m = record m { state = wake m.state }

-- the world after this many steps
unfoldable pub steps : ℕ → View → World → World
steps zero view world = world
steps (suc count) view world = steps count view (world_step view world)

-- C20
abbrev pub world_slice : View → ℕ → World → World
world_slice view budget world = steps budget view (record world { registers = slice_start world.registers })

-- C51: the world after slice j and those after it; `view j` is what slice j sees
unfoldable pub slices_from : ℕ → (ℕ → View) → List ℕ → World → World
slices_from j view [] world = world
slices_from j view (budget ∷ budgets) world =
    slices_from (j + 1) view budgets (world_slice (view j) budget world)

-- C20 to C23: a call for a slice of this budget, over a memory that shows a view, makes a slice of level 1's
-- world with that view. NoMemory, which never comes over a sure memory, ends the slice after fewer steps. No
-- word outside level 1's own regions changes. A machine that was trapped stays trapped, and changes nothing.
pub record IsSlice {T E : Type 0} (budget : ℕ) (m now : Registers) (old new : ShownMemory)
    (result : Result T E) : Type 0 where
  pub world : (view : View) → Shows old.words view
      → OnOk result (world_of now new.words ≡ world_slice view budget (world_of m old.words))
  pub ended : (view : View) → Shows old.words view → OnErr result ((count : ℕ) × (count < budget)
      × (world_of now new.words ≡ world_slice view count (world_of m old.words)))
  pub keeps : KeepsMemory old new result
  pub outside : SameOutside is_level1_own old.words new.words
  pub trapped : (trap : Trap) → m.state ≡ Trapped trap → now ≡ m
  pub trapped_words : (trap : Trap) → m.state ≡ Trapped trap → new.words ≡ old.words
