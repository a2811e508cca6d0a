-- The word of each instruction (F43), and the first line that has a fault of labels (F27). Such a line is of
-- the grammar.
use Rattle.std.specs.Prelude.{ℕ, ◌+◌, ◌-◌, ◌*◌, ℤ, pos, negsuc, ◌-ℤ◌, if◌then◌else◌, nat_lt, Bool, true, List, [], ◌∷◌, ◌++◌, length, Option, Some, None, is_none, is_some, option_map, option_and_then}
use Rattle.std.specs.List.{cons_option}
use Rattle.std.specs.Map.{lookup}
use Rattle.std.specs.Str.{bytes_eq}
use Rattle.eg_asm.specs.declared.operand.Operand.{Operand}
use Rattle.eg_asm.specs.declared.operand.Operand.TheVariants as operand
use Rattle.eg_asm.specs.Forms.{Form, form_named}
use Rattle.eg_asm.specs.Grammar.{Value, Register, Number, Name, Distance, Item, Label, Instruction}

-- ---- labels ----

unfoldable pub size : Item → ℕ
size (Instruction mnemonic values) = 1
size _ = 0

unfoldable pub word_count : List Item → ℕ
word_count [] = 0
word_count (item ∷ items) = size item + word_count items

-- labels with their addresses, in the order of their lines
abbrev pub Labels : Type 0
Labels = List (List ℕ × ℕ)

-- F25; the first of these items stands at this address
unfoldable pub labels_from : ℕ → List Item → Labels
labels_from address [] = []
labels_from address (Label name ∷ items) = (name, address) ∷ labels_from address items
labels_from address (item ∷ items) = labels_from (address + size item) items

abbrev pub labels_of : List Item → Labels
labels_of items = labels_from 0 items

-- F27: the first label of this name counts
abbrev pub address_of : Labels → List ℕ → Option ℕ
address_of labels name = lookup (bytes_eq name) labels

-- ---- words ----

-- a distance as two's complement, if it is at least -reach and below reach
unfoldable pub complement_of : ℕ → ℤ → Option ℕ
complement_of reach (pos n) = if nat_lt n reach then Some n else None
complement_of reach (negsuc n) = if nat_lt n reach then Some (2 * reach - (n + 1)) else None

-- F26: the distance to a target, if there is one, from a jump at this address
unfoldable pub distance_to : Labels → ℕ → Value → Option ℤ
distance_to labels address (Name name) =
    option_map (λ at. pos at -ℤ pos (address + 1)) (address_of labels name)
distance_to labels address (Distance d) = Some d
distance_to labels address _ = None

-- what an operand adds to the word at this address; none if its target is missing or out of range
unfoldable pub field_of : Labels → ℕ → Operand → Value → Option ℕ
field_of labels address (operand.Register weight) (Register n) = Some (n * weight)
field_of labels address (operand.Number most) (Number n) = Some n
field_of labels address (operand.Target reach) value =
    option_and_then (complement_of reach) (distance_to labels address value)
field_of labels address _ _ = None

abbrev pub added : Option ℕ → Option ℕ → Option ℕ
added (Some m) (Some n) = Some (m + n)
added _ _ = None

unfoldable pub fields_of : Labels → ℕ → List Operand → List Value → Option ℕ
fields_of labels address (operand ∷ operands) (value ∷ values) =
    added (field_of labels address operand value) (fields_of labels address operands values)
fields_of labels address _ _ = Some 0

unfoldable pub word_with : Labels → ℕ → Form → List Value → Option ℕ
word_with labels address form values =
    option_map (λ fields. form.base + fields) (fields_of labels address form.operands values)

unfoldable pub word_of : Labels → ℕ → List ℕ → List Value → Option ℕ
word_of labels address mnemonic values =
    option_and_then (λ form. word_with labels address form values) (form_named mnemonic)

unfoldable pub word_at : Labels → ℕ → Item → Option ℕ
word_at labels address (Instruction mnemonic values) = word_of labels address mnemonic values
word_at labels address _ = None

-- F25; the first of these items stands at this address
unfoldable pub words_from : Labels → ℕ → List Item → List ℕ
words_from labels address [] = []
words_from labels address (item ∷ items) =
    cons_option (word_at labels address item) (words_from labels (address + size item) items)

-- F25
abbrev pub item_words : List Item → List ℕ
item_words items = words_from (labels_of items) 0 items

-- ---- faults ----

-- F27, Label, of an item behind others
unfoldable pub is_sound : Labels → List Item → Item → Bool
is_sound labels before (Label name) = is_none (address_of (labels_of before) name)
is_sound labels before (Instruction mnemonic values) =
    is_some (word_of labels (word_count before) mnemonic values)
is_sound labels before _ = true

-- the number of the first of these items that is at fault; other items stand before them
unfoldable pub fault_behind : Labels → List Item → List Item → Option ℕ
fault_behind labels before [] = None
fault_behind labels before (item ∷ items) =
    if is_sound labels before item then fault_behind labels (before ++ item ∷ []) items
    else Some (length before + 1)

-- F27, Label: the number of the first line at fault
abbrev pub first_fault : List Item → Option ℕ
first_fault items = fault_behind (labels_of items) [] items
