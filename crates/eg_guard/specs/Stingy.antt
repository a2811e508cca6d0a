-- What contracts see of the memory that refuses one store, and what a store makes of it.
use Rattle.std.specs.Prelude.{ℕ, zero, suc, Bool, true, false, List, Option, Some, None}

-- the words, and how many stores are still done before the one that is refused, or none once it was refused
pub record StingyState : Type 0 where
  pub words : List ℕ
  pub left : Option ℕ

-- the next allowed store is refused
unfoldable pub refuses_next : Option ℕ → Bool
refuses_next None = false
refuses_next (Some zero) = true
refuses_next (Some (suc left)) = false

-- how many stores are left after one that was allowed
unfoldable pub left_after : Option ℕ → Option ℕ
left_after None = None
left_after (Some zero) = None
left_after (Some (suc left)) = Some left
