-- What the code keeps of the lines of a source until all are read.
use Rattle.std.specs.Prelude.{◌≡◌, ℕ, ◌+◌, if◌then◌else◌, Bool, false, List, [], ◌∷◌, ◌++◌, length, Option, Some, None, is_some, IsSome, map}
use Rattle.std.specs.HashMap.{get}
use Rattle.std.specs.List.{cons_option}
use Rattle.std.specs.Str.{bytes_eq}
use denote.Ref.{Bor}
use Rattle.eg_asm.specs.declared.fault.AsmFault.{AsmFault}
use Rattle.eg_asm.specs.declared.source.Placed.{Placed}
use Rattle.eg_asm.specs.declared.source.Source.{Source}
use Rattle.eg_asm.specs.Forms.{form_named}
use Rattle.eg_asm.specs.Grammar.{Item, Label, Instruction}
use Rattle.eg_asm.specs.Words.{word_count, labels_of, address_of}
use Rattle.eg_asm.specs.Inner.Encodings.{Encoded, Told, told, instruction_shown}
use Rattle.eg_asm.specs.Inner.Encodings as tells
use Rattle.eg_asm.specs.Reading.{item_behind, refusal}

-- an instruction with the number of its line
unfoldable pub numbered : ℕ → Told → Option (ℕ × Encoded)
numbered number (tells.Instruction e) = Some (number, e)
numbered number _ = None

-- the instructions among items; the line of the first item has this number
unfoldable pub instructions_from : ℕ → List Item → List (ℕ × Encoded)
instructions_from number [] = []
instructions_from number (item ∷ items) =
    cons_option (numbered number (told item)) (instructions_from (number + 1) items)

-- F27: an item repeats an earlier label
unfoldable pub is_repeat : List Item → Item → Bool
is_repeat before (Label name) = is_some (address_of (labels_of before) name)
is_repeat before _ = false

-- the number of the first of these items that is a repeat; other items stand before them
unfoldable pub repeat_behind : List Item → List Item → Option ℕ
repeat_behind before [] = None
repeat_behind before (item ∷ items) =
    if is_repeat before item then Some (length before + 1) else repeat_behind (before ++ item ∷ []) items

-- What is kept of items: the instructions, where the labels are, and the line of the first repeated label.
-- Labels are looked up by keys that have a name.
pub record Keeps {K : Type 0} (name_of : K → List ℕ) (items : List Item) (instructions : List (ℕ × Encoded))
    (address : K → Option ℕ) (repeated : Option ℕ) : Type 0 where
  pub all : instructions ≡ instructions_from 1 items
  pub count : length instructions ≡ word_count items
  pub labels : (key : K) → address key ≡ address_of (labels_of items) (name_of key)
  pub repeat : repeated ≡ repeat_behind [] items

unfoldable pub HasForm : Item → Type 0
HasForm (Instruction mnemonic values) = IsSome (form_named mnemonic)
HasForm _ = Unit {0}

-- ---- what the code's values show ----

abbrev pub placed_shown : Placed → ℕ × Encoded
placed_shown placed = (placed.line, instruction_shown placed.instruction)

-- the source holds what is kept of these items
abbrev pub HoldsItems : Source → List Item → Type 0
HoldsItems source items =
    Keeps (λ (name : Bor (List ℕ)). name.now) items (map placed_shown source.instructions.items)
    (get (λ x y. bytes_eq x.now y.now) source.labels) source.repeated

-- If the old source holds what is kept of some items, the new source holds what is kept of these and of one
-- more, whose line has this number and tells this.
abbrev pub Adds : ℕ → Told → Source → Source → Type 0
Adds line tells old new =
    (items : List Item) (item : Item) → HasForm item → told item ≡ tells → line ≡ length items + 1
    → HoldsItems old items → HoldsItems new (items ++ item ∷ [])

-- If the old source holds what is kept of some items, the new source holds what is kept of these and of the
-- item that the line of this number says.
abbrev pub ReadsMore : ℕ → List ℕ → Source → Source → Type 0
ReadsMore number line old new =
    (items : List Item) → number ≡ length items + 1 → HoldsItems old items
    → (item : Item) × (item_behind (word_count items) line ≡ Some item) × HoldsItems new (items ++ item ∷ [])

-- the line of this number says nothing that may come behind what is kept, and this is why
abbrev pub StopsAt : ℕ → List ℕ → Source → AsmFault → Type 0
StopsAt number line kept e =
    (items : List Item) → HoldsItems kept items
    → (item_behind (word_count items) line ≡ None) × (e ≡ refusal (word_count items) number)
