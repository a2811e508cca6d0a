-- Which files a command may read (F8).
use Rattle.std.specs.Prelude.{◌||◌, ℕ, Bool, List, bytes_eq}
use Rattle.std.specs.List.{list_any}

-- what opens the files of a store, the words of the command, and how many faults the store has met
pub record TrustedState (O : Type 0) : Type 0 where
  pub opener : O
  pub words : List (List ℕ)
  pub faults : ℕ

abbrev pub is_word : List (List ℕ) → List ℕ → Bool
is_word words name = list_any (λ word. bytes_eq word name) words

-- F8
abbrev pub may_read : List (List ℕ) → (List ℕ → Bool) → List ℕ → Bool
may_read words is_regular name = is_word words name || is_regular name
