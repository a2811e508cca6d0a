-- What contracts see of a guarded memory (C23), and what each call over it keeps.
use Rattle.std.specs.Prelude.{◌≡◌, ℕ, ◌<◌, ◌^◌, Bool, false, List, length, slice_index, Result, IsTrue, IsOk}
use Rattle.eg_guard.specs.declared.regions.Region.{Region}
use Rattle.eg_guard.specs.declared.regions.TheConstants.{WORDS}
use Rattle.eg_guard.specs.Regions.{region_of}

-- the words by their addresses, and whether the memory is sure, so that a store takes no memory of the
-- computer
pub record ShownMemory : Type 0 where
  pub words : List ℕ
  pub sure : Bool

-- 4,096 words of 16 bits
pub record AreWords (words : List ℕ) : Type 0 where
  pub count : length words ≡ WORDS
  pub small : (address : ℕ) → slice_index words address < 2 ^ 16

-- C23: each word that lies in none of these regions is as before
abbrev pub SameOutside : (Region → Bool) → List ℕ → List ℕ → Type 0
SameOutside is_inside old new =
    (address : ℕ) → is_inside (region_of address) ≡ false → slice_index new address ≡ slice_index old address

-- What a call over a guarded memory keeps, whatever it answers. Over a sure memory it is done; the memory is
-- sure exactly if it was before; and 4,096 words of 16 bits stay 4,096 words of 16 bits.
pub record KeepsMemory {T E : Type 0} (old new : ShownMemory) (result : Result T E) : Type 0 where
  pub sure : IsTrue old.sure → IsOk result
  pub stays_sure : new.sure ≡ old.sure
  pub are_words : AreWords old.words → AreWords new.words
