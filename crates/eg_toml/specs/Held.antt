-- What a document may hold somewhere, in the words of TOML: a value of some form, which keeps a rule.
use Rattle.std.specs.Prelude.{◌≡◌, ◌⊎◌, ◌≤◌, ℕ, pos, List, [], ◌∷◌, length, All, Option, Some, None}
use Rattle.toml.specs.Data.{Data, integer, array, Items, no_items, item}

-- a value of this form is written there, and keeps the rule
pub record HoldsValue {X : Type 0} (form : X → Data) (rule : X → Type 0) (o : Option Data) : Type 0 where
  pub value : X
  pub is : o ≡ Some (form value)
  pub keeps : rule value

-- a value of this form that keeps the rule is written there, or nothing is
abbrev pub MayHoldValue : {X : Type 0} → (X → Data) → (X → Type 0) → Option Data → Type 0
MayHoldValue form rule o = (o ≡ None) ⊎ HoldsValue form rule o

-- ---- forms ----

-- a number from 0 on
abbrev pub natural : ℕ → Data
natural n = integer (pos n)

-- the items of an array of values of this form
abbrev pub items_of : {X : Type 0} → (X → Data) → List X → Items
items_of form [] = no_items
items_of form (x ∷ xs) = item (form x) (items_of form xs)

-- an array of values of this form
abbrev pub array_of : {X : Type 0} → (X → Data) → List X → Data
array_of form xs = array (items_of form xs)

-- ---- rules ----

-- a number from `low` to `high`
abbrev pub IsBetween : ℕ → ℕ → ℕ → Type 0
IsBetween low high n = (low ≤ n) × (n ≤ high)

-- `least` to `most` values, each of which keeps the rule
pub record AreMany {X : Type 0} (least most : ℕ) (rule : X → Type 0) (xs : List X) : Type 0 where
  pub from : least ≤ length xs
  pub to : length xs ≤ most
  pub each : All rule xs
