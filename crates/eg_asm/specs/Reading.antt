-- How a source is read, line by line. Reading undoes what the grammar writes: this is the law
-- `sources_have_one_answer`. Sources.antt says what a source is.
use Rattle.std.specs.Prelude.{◌≡◌, ◌⊎◌, ℕ, ◌+◌, ◌-◌, ◌==◌, ℤ, pos, negsuc, if◌then◌else◌, nat_lt, nat_le, Bool, ◌&&◌, ◌||◌, List, [], ◌∷◌, length, drop, take, slice_index, codes, Option, Some, None, option_map, option_and_then, Result, Ok, Err}
use Rattle.std.specs.Char.{is_ascii_digit}
use Rattle.std.specs.Int.{is_in_range}
use Rattle.std.specs.List.{list_all, position_or_len, before_first, after_first, slice_split}
use Rattle.std.specs.Option.{option_map_or}
use Rattle.std.specs.Str.{byte, bytes_eq}
use Rattle.std.specs.declared.vec.Vec.{Vec}
use Rattle.std.specs.declared.alloc.Global.{Global}
use Rattle.eg_input.specs.Fields.{decimal_value}
use Rattle.eg_input.specs.Images.{Line, lines_of}
use Rattle.eg_input.specs.declared.image.TheConstants.{MOST_WORDS}
use Rattle.eg_asm.specs.declared.fault.AsmFault.{AsmFault}
use Rattle.eg_asm.specs.declared.fault.AsmFault.TheVariants as fault
use Rattle.eg_asm.specs.declared.operand.Operand.{Operand}
use Rattle.eg_asm.specs.declared.operand.Operand.TheVariants as operand
use Rattle.eg_asm.specs.Forms.{form_named}
use Rattle.eg_asm.specs.Numerals.{is_name}
use Rattle.eg_asm.specs.Grammar.{Value, Register, Number, Name, Distance, Item, Nothing, Comment, Label, Instruction}
use Rattle.eg_asm.specs.Words.{size, item_words, first_fault}

-- ---- operands ----

-- F26, a number
unfoldable pub is_numeral : List ℕ → Bool
is_numeral text =
    bytes_eq text (codes "0") || (nat_lt (byte "0") (slice_index text 0) && list_all is_ascii_digit text)

unfoldable pub numeral_in : List ℕ → Option ℕ
numeral_in text = if is_numeral text then Some (decimal_value text) else None

abbrev pub at_most : ℕ → ℕ → Option ℕ
at_most most n = if nat_le n most then Some n else None

-- the number less than 0 of this magnitude
abbrev pub negative : ℕ → Option ℤ
negative n = if n == 0 then None else Some (negsuc (n - 1))

-- F26, a target that is a number
unfoldable pub integer_in : List ℕ → Option ℤ
integer_in text =
    if slice_index text 0 == byte "-" then option_and_then negative (numeral_in (drop 1 text))
    else option_map pos (numeral_in text)

-- F25: `r0` to `r7`
unfoldable pub register_in : List ℕ → Option ℕ
register_in text =
    if length text == 2 && slice_index text 0 == byte "r"
    && is_in_range (byte "0") (byte "7") (slice_index text 1)
    then Some (slice_index text 1 - byte "0")
    else None

unfoldable pub target_in : List ℕ → Option Value
target_in text = if is_name text then Some (Name text) else option_map Distance (integer_in text)

unfoldable pub value_of : Operand → List ℕ → Option Value
value_of (operand.Register weight) text = option_map Register (register_in text)
value_of (operand.Number most) text = option_map Number (option_and_then (at_most most) (numeral_in text))
value_of (operand.Target reach) text = target_in text

abbrev pub value_before : Option Value → Option (List Value) → Option (List Value)
value_before (Some value) (Some values) = Some (value ∷ values)
value_before _ _ = None

-- the values of operands, if there is a text for each
unfoldable pub values_of : List Operand → List (List ℕ) → Option (List Value)
values_of [] [] = Some []
values_of [] (text ∷ texts) = None
values_of (operand ∷ operands) [] = None
values_of (operand ∷ operands) (text ∷ texts) =
    value_before (value_of operand text) (values_of operands texts)

-- ---- lines ----

abbrev pub is_byte : ℕ → ℕ → Bool
is_byte wanted b = b == wanted

-- what stands behind the first byte that is the wanted one, if there is one
unfoldable pub behind_first : ℕ → List ℕ → Option (List ℕ)
behind_first wanted text =
    if nat_lt (position_or_len (is_byte wanted) text) (length text)
    then Some (after_first (is_byte wanted) text)
    else None

-- what stands before the last byte, if it is the wanted one
unfoldable pub before_last_byte : ℕ → List ℕ → Option (List ℕ)
before_last_byte wanted text =
    if bytes_eq (drop (length text - 1) text) (wanted ∷ []) then Some (take (length text - 1) text) else None

-- the texts of operands between commas, if they stand behind a space
unfoldable pub texts_in : Option (List ℕ) → List (List ℕ)
texts_in None = []
texts_in (Some text) = slice_split (is_byte (byte ",")) text

-- F25, an instruction
unfoldable pub instruction_in : List ℕ → Option Item
instruction_in text =
    option_and_then
    (λ form. option_map (Instruction form.mnemonic)
    (values_of form.operands (texts_in (behind_first (byte " ") text))))
    (form_named (before_first (is_byte (byte " ")) text))

-- F25, a label or an instruction, by what stands before a colon at the end of the text, if anything
unfoldable pub labelled : List ℕ → Option (List ℕ) → Option Item
labelled text (Some name) = if is_name name then Some (Label name) else None
labelled text None = instruction_in text

-- F25, of a line without its line feed
unfoldable pub item_of_text : List ℕ → Option Item
item_of_text [] = Some Nothing
item_of_text (first ∷ rest) =
    if first == byte ";" then Some (Comment rest)
    else labelled (first ∷ rest) (before_last_byte (byte ":") (first ∷ rest))

-- F25
unfoldable pub item_in : Line → Option Item
item_in line = option_and_then item_of_text (before_last_byte (byte "\n") line)

-- ---- sources ----

-- an item, if there is room for it behind this many words
abbrev pub with_room : ℕ → Item → Option Item
with_room words item = if nat_le (words + size item) MOST_WORDS then Some item else None

-- what a line says, if it may come behind this many words
unfoldable pub item_behind : ℕ → Line → Option Item
item_behind words line = option_and_then (with_room words) (item_in line)

-- F27, Line and Long
unfoldable pub refusal : ℕ → ℕ → AsmFault
refusal words number = if words == MOST_WORDS then fault.Long else fault.Line number

-- an item before others, or the fault of its line
unfoldable pub item_before :
    AsmFault → Option Item → Result (List Item) AsmFault → Result (List Item) AsmFault
item_before e None read = Err e
item_before e (Some item) (Ok items) = Ok (item ∷ items)
item_before e (Some item) (Err later) = Err later

-- what lines say behind this many words; the first line has this number
unfoldable pub items_from : ℕ → ℕ → List Line → Result (List Item) AsmFault
items_from words number [] = Ok []
items_from words number (line ∷ lines) =
    item_before (refusal words number) (item_behind words line)
    (items_from (words + option_map_or size (item_behind words line) 0) (number + 1) lines)

-- F27, Label
unfoldable pub linked : List Item → Option ℕ → Result (List ℕ) AsmFault
linked items None = Ok (item_words items)
linked items (Some number) = Err (fault.Label number)

unfoldable pub words_read : Result (List Item) AsmFault → Result (List ℕ) AsmFault
words_read (Ok items) = linked items (first_fault items)
words_read (Err e) = Err e

-- F25 to F27
unfoldable pub assembled : List ℕ → Result (List ℕ) AsmFault
assembled source = words_read (items_from 0 1 (lines_of source))

-- the answer is the expected one, unless memory ran out
abbrev pub IsAssembled : Result (List ℕ) AsmFault → Result (Vec ℕ Global) AsmFault → Type 0
IsAssembled expected (Ok words) = expected ≡ Ok words.items
IsAssembled expected (Err e) = (e ≡ fault.Memory) ⊎ (expected ≡ Err e)
