-- How a word is written: in a source as an instruction (F28), in an image as hexadecimal digits (F23).
use Rattle.std.specs.Prelude.{ℕ, ◌+◌, ◌/◌, ◌%◌, ◌*◌, ◌==◌, Bool, false, List, [], ◌++◌, map, codes, find, unwrap_or}
use Rattle.std.specs.Int.{to_be_bytes, w16}
use Rattle.std.specs.List.{flat_map}
use Rattle.std.specs.Option.{option_map_or}
use Rattle.hex.specs.Hex.{encode_lower}
use Rattle.eg_word.specs.Instructions.{signed}
use Rattle.eg_asm.specs.declared.operand.Operand.{Operand}
use Rattle.eg_asm.specs.declared.operand.Operand.TheVariants as operand
use Rattle.eg_asm.specs.Forms.{Form, forms, word_form}
use Rattle.eg_asm.specs.Grammar.{Value, Register, Number, Distance, Item, Instruction, line_of}
use Rattle.eg_asm.specs.Words.{word_with}

unfoldable pub value_in : ℕ → Operand → Value
value_in word (operand.Register weight) = Register (word / weight % 8)
value_in word (operand.Number most) = Number (word % (most + 1))
value_in word (operand.Target reach) = Distance (signed reach (word % (2 * reach)))

abbrev pub values_in : ℕ → Form → List Value
values_in word form = map (value_in word) form.operands

-- F28: these values are all that the word says, so that the form with them has this word
unfoldable pub is_of : ℕ → Form → Bool
is_of word form = option_map_or (λ made. made == word) (word_with [] 0 form (values_in word form)) false

-- F28: the first form that a word is of
unfoldable pub form_of : ℕ → Form
form_of word = unwrap_or (find (is_of word) forms) word_form

unfoldable pub item_of : ℕ → Item
item_of word = Instruction (form_of word).mnemonic (values_in word (form_of word))

-- F28
abbrev pub source_text : List ℕ → List ℕ
source_text words = flat_map (λ word. line_of (item_of word)) words

-- F23, F24
abbrev pub image_text : List ℕ → List ℕ
image_text words = flat_map (λ word. encode_lower (to_be_bytes w16 word) ++ codes "\n") words
