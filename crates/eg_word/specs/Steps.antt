-- What a call for one step keeps, as its contract says it.
use Rattle.std.specs.Prelude.{◌≡◌, Result, OnOk, OnErr}
use Rattle.eg_guard.specs.Memory.{ShownMemory, SameOutside, KeepsMemory}
use Rattle.eg_word.specs.declared.registers.Registers.{Registers}
use Rattle.eg_word.specs.Machine.{Step, step}
use Rattle.eg_word.specs.Memory.{load_from, put, is_level1_own}
use Rattle.eg_word.specs.World.{View, Shows, world_of, world_step}

-- A call that answers Ok has made `made` of the registers and of the words; NoMemory changes nothing, and
-- never comes over a sure memory.
pub record Makes {T E : Type 0} (made : Step) (m now : Registers) (old new : ShownMemory)
    (result : Result T E) : Type 0 where
  pub registers : OnOk result (now ≡ made.registers)
  pub words : OnOk result (new.words ≡ put old.words made.stored)
  pub unchanged : OnErr result (now ≡ m)
  pub memory_unchanged : OnErr result (new ≡ old)
  pub keeps : KeepsMemory old new result

-- A call for one step makes what F43 says. It changes no word outside level 1's own regions (C23); and over a
-- memory that shows a view it is a step of level 1's world with that view (C22).
pub record IsOneStep {T E : Type 0} (m now : Registers) (old new : ShownMemory)
    (result : Result T E) : Type 0 where
  pub makes : Makes (step (load_from old.words) m) m now old new result
  pub outside : SameOutside is_level1_own old.words new.words
  pub world : (view : View) → Shows old.words view
      → OnOk result (world_of now new.words ≡ world_step view (world_of m old.words))
