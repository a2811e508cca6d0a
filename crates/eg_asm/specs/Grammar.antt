-- What a line of a source says, and how it is written (F25, F26). Reading a line undoes this.
use Rattle.std.specs.Prelude.{◌≡◌, ℕ, ◌<◌, ◌≤◌, ℤ, true, false, List, [], ◌∷◌, ◌++◌, map, codes, IsSomeAnd}
use Rattle.std.specs.Char.{is_newline}
use Rattle.std.specs.List.{AllZip, AllByRecursion, flat_map, join_with_byte, list_any}
use Rattle.std.specs.Str.{byte}
use Rattle.eg_asm.specs.declared.operand.Operand.{Operand}
use Rattle.eg_asm.specs.declared.operand.Operand.TheVariants as operand
use Rattle.eg_asm.specs.Forms.{form_named}
use Rattle.eg_asm.specs.Numerals.{integer, is_name, numeral}

-- F25, F26, an operand: a target is the name of a label, or a distance
pub data Value : Type 0 where
  Register : ℕ → Value
  Number : ℕ → Value
  Name : List ℕ → Value
  Distance : ℤ → Value

-- F25
pub data Item : Type 0 where
  Nothing : Item
  Comment : List ℕ → Item
  Label : List ℕ → Item
  Instruction : List ℕ → List Value → Item

-- ---- what is written ----

unfoldable pub text_of_value : Value → List ℕ
text_of_value (Register n) = codes "r" ++ numeral n
text_of_value (Number n) = numeral n
text_of_value (Name name) = name
text_of_value (Distance d) = integer d

-- F25
unfoldable pub text_of_values : List Value → List ℕ
text_of_values [] = []
text_of_values (value ∷ values) = codes " " ++ join_with_byte (byte ",") (map text_of_value (value ∷ values))

unfoldable pub text_of : Item → List ℕ
text_of Nothing = []
text_of (Comment bytes) = codes ";" ++ bytes
text_of (Label name) = name ++ codes ":"
text_of (Instruction mnemonic values) = mnemonic ++ text_of_values values

-- F25
unfoldable pub line_of : Item → List ℕ
line_of item = text_of item ++ codes "\n"

-- ---- what may be said ----

-- F25, F26; the grammar doesn't limit how far a jump goes
unfoldable pub Fits : Operand → Value → Type 0
Fits (operand.Register weight) (Register n) = n < 8
Fits (operand.Number most) (Number n) = n ≤ most
Fits (operand.Target reach) (Name name) = is_name name ≡ true
Fits (operand.Target reach) (Distance d) = Unit {0}
Fits _ _ = ⊥

-- F25: an instruction is of a form, and has a value for each of its operands
unfoldable pub IsItem : Item → Type 0
IsItem Nothing = Unit {0}
IsItem (Comment bytes) = list_any is_newline bytes ≡ false
IsItem (Label name) = is_name name ≡ true
IsItem (Instruction mnemonic values) =
    IsSomeAnd (form_named mnemonic) (λ form. AllZip Fits form.operands values)

pub record IsLineOf (line : List ℕ) (item : Item) : Type 0 where
  pub may : IsItem item
  pub written : line ≡ line_of item

pub record IsTextOf (text : List ℕ) (items : List Item) : Type 0 where
  pub may : AllByRecursion IsItem items
  pub written : text ≡ flat_map line_of items
