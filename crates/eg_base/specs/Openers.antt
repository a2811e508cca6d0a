-- What contracts see of what opens files, and of a store over it.
use Rattle.std.specs.Prelude.{◌≡◌, ℕ, List, Option, IfSome, IsSome}
use Rattle.std.specs.FinMap.{get}
use Rattle.eg_base.specs.Outside.{Files}

-- what opens the files of a store, and how many faults the store has met
pub record OpenerState (O : Type 0) : Type 0 where
  pub opener : O
  pub faults : ℕ

-- if the files are told, the file of that name was opened, and these bytes are left to read
abbrev pub IsOpened : Option Files → List ℕ → Option (List ℕ) → Type 0
IsOpened files name left = IfSome files (λ m. (get m name ≡ left) × IsSome left)
