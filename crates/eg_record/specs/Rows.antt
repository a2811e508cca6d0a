-- The record of a run: a list of rows, one a tick, newest first. What the rows first give is what the
-- earliest row gives that gives anything.
use Rattle.std.specs.Prelude.{◌≡◌, List, [], ◌∷◌, length, Option, None}
use Rattle.std.specs.Option.{option_or}
use Rattle.eg_record.specs.declared.row.Row.{Row}

-- the tick of each row is the count of the rows before it
abbrev pub AreRows : List Row → Type 0
AreRows [] = Unit {0}
AreRows (row ∷ before) = (row.tick ≡ length before) × AreRows before

unfoldable pub first_given : {X : Type 0} → (Row → Option X) → List Row → Option X
first_given gives [] = None
first_given gives (row ∷ before) = option_or (first_given gives before) (gives row)
