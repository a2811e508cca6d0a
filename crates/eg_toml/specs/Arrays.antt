-- How arrays of a document are read: item by item, if there are as many items as there may be, and each of
-- them can be read.
use Rattle.std.specs.Prelude.{◌≡◌, ℕ, suc, ◌&&◌, Bool, true, List, [], ◌∷◌, ◌++◌, Option, Some, None, option_map, if◌then◌else◌, nat_le, nat_lt, MatchBool}
use Rattle.toml.specs.Data.{Data, Items, no_items, item, as_array}
use Rattle.eg_toml.specs.Values.{number_in, ◌>>=◌}

abbrev pub count : Items → ℕ
count no_items = 0
count (item d ds) = suc (count ds)

-- what one item reads as, and what those after it read as
abbrev pub append_read : {X : Type 0} → Option (List X) → Option (List X) → Option (List X)
append_read (Some xs) (Some ys) = Some (xs ++ ys)
append_read _ _ = None

-- what all items read as, one after another, if each can be read
abbrev pub all_read : {X : Type 0} → (Data → Option (List X)) → Items → Option (List X)
all_read read no_items = Some []
all_read read (item d ds) = append_read (read d) (all_read read ds)

-- a list of the one thing that an item reads as
abbrev pub one : {X : Type 0} → (Data → Option X) → Data → Option (List X)
one read d = option_map (λ x. x ∷ []) (read d)

abbrev pub items_in : ℕ → ℕ → Data → Option Items
items_in least most d = do
  ds ← as_array d
  if nat_le least (count ds) && nat_le (count ds) most then Some ds else None

-- what the items of an array of `least` to `most` items read as
abbrev pub array_in : {X : Type 0} → ℕ → ℕ → (Data → Option (List X)) → Data → Option (List X)
array_in least most read d = items_in least most d >>= all_read read

-- items that are numbers up to `high`
abbrev pub all_numbers : ℕ → Items → Option (List ℕ)
all_numbers high ds = all_read (one (number_in 0 high)) ds

-- an array of `least` to `most` numbers, each up to `high`
abbrev pub numbers_in : ℕ → ℕ → ℕ → Data → Option (List ℕ)
numbers_in least most high d = array_in least most (one (number_in 0 high)) d

-- an array of `tall` rows, each of `wide` numbers up to `high`: its numbers, row by row
abbrev pub rows_in : ℕ → ℕ → ℕ → Data → Option (List ℕ)
rows_in tall wide high d = array_in tall tall (numbers_in wide wide high) d

-- If `ok`, what was read stands behind what was found before; else the items couldn't be read.
abbrev pub HasRead : {X : Type 0} → Option (List X) → List X → List X → Bool → Type 0
HasRead read before after ok = MatchBool ok (option_map (λ xs. before ++ xs) read ≡ Some after) (read ≡ None)

abbrev pub is_rising : List ℕ → Bool
is_rising [] = true
is_rising (x ∷ []) = true
is_rising (x ∷ y ∷ ys) = nat_lt x y && is_rising (y ∷ ys)
