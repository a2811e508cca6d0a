-- Small sources, from their bytes, and listings of words.
use Rattle.std.proofs.Common.{◌≡◌, refl, ℕ, zero, suc, List, [], ◌∷◌, ◌++◌, Ok, Err}
use Rattle.std.specs.Prelude.{codes, map, replicate, Result}
use Rattle.hex.proofs.OnLiterals.{hex_on_literals}
use Rattle.eg_word.specs.Instructions.{signed}
use Rattle.eg_input.specs.Fields.{decimal_value}
use Rattle.eg_input.specs.Images.{lines_of}
use Rattle.eg_asm.specs.declared.fault.AsmFault.{AsmFault}
use Rattle.eg_asm.specs.declared.fault.AsmFault.TheVariants as fault
use Rattle.eg_asm.specs.Forms.{forms, form_named}
use Rattle.eg_asm.specs.Numerals.{numeral, integer, is_name}
use Rattle.eg_asm.specs.Grammar.{text_of_value, text_of_values, text_of, line_of}
use Rattle.eg_asm.specs.Words.{size, word_count, labels_from, complement_of, distance_to, field_of, fields_of, word_with, word_of, word_at, words_from, is_sound, fault_behind}
use Rattle.eg_asm.specs.Listings.{value_in, is_of, form_of, item_of, source_text, image_text}
use Rattle.eg_asm.specs.Reading.{is_numeral, numeral_in, integer_in, register_in, target_in, value_of, values_of, behind_first, before_last_byte, texts_in, instruction_in, labelled, item_of_text, item_in, item_behind, refusal, item_before, items_from, linked, words_read, assembled}

-- every definition of assembling
unfoldable assembling : ℕ
unfolding decimal_value lines_of forms form_named is_name size word_count labels_from complement_of distance_to field_of fields_of word_with word_of word_at words_from is_sound fault_behind is_numeral numeral_in integer_in register_in target_in value_of values_of behind_first before_last_byte texts_in instruction_in labelled item_of_text item_in item_behind refusal item_before items_from linked words_read assembled
assembling = 0

-- every definition of listing
unfoldable listing : ℕ
unfolding signed forms form_named numeral integer text_of_value text_of_values text_of line_of field_of fields_of distance_to complement_of word_with value_in is_of form_of item_of
listing = 0

-- the answers to some sources
abbrev answers : List (List ℕ) → List (Result (List ℕ) AsmFault)
answers sources = map assembled sources

-- a line that is written n times
lines : ℕ → List ℕ → List ℕ
lines zero line = []
lines (suc n) line = line ++ lines n line

abbrev nops : ℕ → List ℕ
nops n = lines n (codes "nop\n")

-- ---- sources ----

-- a label, and a jump back to it
loop : assembled (codes "loop:\nwait\njz r0,loop\n") ≡ Ok (0xf000 ∷ 0xd1fe ∷ [])
unfolding assembling
loop = refl

-- an empty source has no words, and neither do comments, labels and empty lines
without_words : answers ([] ∷ codes "\n" ∷ codes "; any bytes: \r\t\n\na:\n;\n" ∷ []) ≡ Ok [] ∷ Ok [] ∷ Ok [] ∷ []
unfolding assembling
without_words = refl

-- each form at the lower end of its ranges
lowest : assembled (codes "nop\nldi r0,0\nldx r0,0\nmov r0,r0\nadd r0,r0,r0\nsub r0,r0,r0\nand r0,r0,r0\nor r0,r0,r0\nxor r0,r0,r0\n"
    ++ codes "shr r0,r0,0\nmul r0,r0,r0\nld r0,r0,0\nst r0,r0,0\njz r0,-256\njlt r0,r0,-32\nwait\njr r0\nword 0\n")
    ≡ Ok (0x0000 ∷ 0x1000 ∷ 0x2000 ∷ 0x3000 ∷ 0x4000 ∷ 0x5000 ∷ 0x6000 ∷ 0x7000 ∷ 0x8000 ∷ 0x9000 ∷ 0xa000 ∷ 0xb000 ∷ 0xc000 ∷ 0xd100 ∷ 0xe020 ∷ 0xf000 ∷ 0xf001 ∷ 0x0000 ∷ [])
unfolding assembling
lowest = refl

-- each form at the upper end of its ranges
highest : assembled (codes "nop\nldi r7,511\nldx r7,127\nmov r7,r7\nadd r7,r7,r7\nsub r7,r7,r7\nand r7,r7,r7\nor r7,r7,r7\nxor r7,r7,r7\n"
    ++ codes "shr r7,r7,15\nmul r7,r7,r7\nld r7,r7,63\nst r7,r7,63\njz r7,255\njlt r7,r7,31\nwait\njr r7\nword 65535\n")
    ≡ Ok (0x0000 ∷ 0x1fff ∷ 0x2e7f ∷ 0x3fc0 ∷ 0x4ff8 ∷ 0x5ff8 ∷ 0x6ff8 ∷ 0x7ff8 ∷ 0x8ff8 ∷ 0x9fcf ∷ 0xaff8 ∷ 0xbfff ∷ 0xcfff ∷ 0xdeff ∷ 0xefdf ∷ 0xf000 ∷ 0xfe01 ∷ 0xffff ∷ [])
unfolding assembling
highest = refl

-- registers stand in their places
places : assembled (codes "sub r1,r2,r3\njlt r4,r5,6\n") ≡ Ok (0x5298 ∷ 0xe946 ∷ [])
unfolding assembling
places = refl

-- a number past the end of its range isn't of the grammar
past_numbers : answers (codes "ldi r0,512\n" ∷ codes "ldi r8,0\n" ∷ codes "ldx r0,128\n" ∷ codes "shr r0,r0,16\n" ∷ codes "ld r0,r0,64\n"
    ∷ codes "st r0,r0,64\n" ∷ codes "word 65536\n"
    ∷ codes "ldi r0,99999999999999999999\n" ∷ []) ≡ replicate 8 (Err (fault.Line 1))
unfolding assembling
past_numbers = refl

-- a target past the end of its range is, and is at fault
past_targets : answers (codes "jz r0,256\n" ∷ codes "jz r0,-257\n" ∷ codes "jlt r0,r0,32\n" ∷ codes "jlt r0,r0,-33\n"
    ∷ codes "jz r0,99999999999999999999\n" ∷ codes "jz r0,-99999999999999999999\n"
    ∷ []) ≡ replicate 6 (Err (fault.Label 1))
unfolding assembling
past_targets = refl

-- numbers with a leading 0, and a 0 with a sign
zeros : answers (codes "jz r0,-0\n" ∷ codes "jz r0,01\n" ∷ codes "jz r0,-01\n" ∷ codes "ldi r0,00\n" ∷ codes "ldi r0,-1\n" ∷ codes "jz r0,+1\n"
    ∷ codes "jz r0,-\n" ∷ codes "jz r0,\n" ∷ [])
    ≡ replicate 8 (Err (fault.Line 1))
unfolding assembling
zeros = refl

-- blanks, and other ends of a line
blanks : answers (codes "nop \n" ∷ codes " nop\n" ∷ codes "ldi  r0,1\n" ∷ codes "ldi r0, 1\n" ∷ codes "ldi r0,1 \n" ∷ codes "nop\r\n"
    ∷ codes "a:\r\n" ∷ codes "\r\n" ∷ codes "nop" ∷ codes ";" ∷ codes "a:" ∷ [])
    ≡ replicate 11 (Err (fault.Line 1))
unfolding assembling
blanks = refl

-- operands that are missing, too many or of another kind, and names that no form has
operands : answers (codes "nop r0\n" ∷ codes "ldi\n" ∷ codes "ldi r0\n" ∷ codes "ldi r0,1,2\n" ∷ codes "ldi 1,r0\n" ∷ codes "add r0,r0,0\n"
    ∷ codes "jz r0,r1\n" ∷ codes "word\n" ∷ codes "dbl r0\n" ∷ codes "NOP\n" ∷ [])
    ≡ replicate 10 (Err (fault.Line 1))
unfolding assembling
operands = refl

-- ---- labels ----

-- a label may bear the name of a form, and have 16 letters, and stand at the end
named : answers (codes "ldi:\njz r0,ldi\n" ∷ codes "jz r0,abcdefghijklmnop\nabcdefghijklmnop:\n" ∷ codes "r:\nwait:\njz r0,r\n" ∷ [])
    ≡ Ok (0xd1ff ∷ []) ∷ Ok (0xd000 ∷ []) ∷ Ok (0xd1ff ∷ []) ∷ []
unfolding assembling
named = refl

-- a label may not have 17 letters, or none, or another byte than a letter
unnamed : answers (codes "abcdefghijklmnopq:\n" ∷ codes ":\n" ∷ codes "a1:\n" ∷ codes "A:\n" ∷ codes "a::\n" ∷ codes "a: \n" ∷ codes "a:nop\n"
    ∷ codes "jz r0,abcdefghijklmnopq\n" ∷ [])
    ≡ replicate 8 (Err (fault.Line 1))
unfolding assembling
unnamed = refl

-- a target that names no label, and a label that is repeated
missing : answers (codes "jz r0,on\n" ∷ codes "\na:\n;\na:\n" ∷ codes "jz r0,on\na:\na:\n" ∷ codes "a:\na:\njz r0,on\n" ∷ [])
    ≡ Err (fault.Label 1) ∷ Err (fault.Label 4) ∷ Err (fault.Label 1) ∷ Err (fault.Label 2) ∷ []
unfolding assembling
missing = refl

-- a later line that isn't of the grammar comes first
line_first : answers (codes "jz r0,on\nldi r0,512\n" ∷ codes "a:\na:\nb" ∷ []) ≡ Err (fault.Line 2) ∷ Err (fault.Line 3) ∷ []
unfolding assembling
line_first = refl

-- labels at both ends of the range of a jump forward, and one past it
forward : answers ((codes "jz r0,on\n" ++ nops 255 ++ codes "on:\n") ∷ (codes "jz r0,on\n" ++ nops 256 ++ codes "on:\n") ∷ [])
    ≡ Ok (0xd0ff ∷ replicate 255 0) ∷ Err (fault.Label 1) ∷ []
unfolding assembling lines
forward = refl

-- the same of a jump back
back : answers ((codes "on:\n" ++ nops 31 ++ codes "jlt r0,r0,on\n") ∷ (codes "on:\n" ++ nops 32 ++ codes "jlt r0,r0,on\n") ∷ [])
    ≡ Ok (replicate 31 0 ++ 0xe020 ∷ []) ∷ Err (fault.Label 34) ∷ []
unfolding assembling lines
back = refl

-- ---- many lines ----

-- behind 1,024 instructions comes nothing but empty lines, comments and labels
long : answers ((nops 1024 ++ codes "nop\n") ∷ (nops 1024 ++ codes "\n;\na:\nno\n") ∷ (nops 1024 ++ codes "nop") ∷ (nops 1023 ++ codes "no\n") ∷ [])
    ≡ Err fault.Long ∷ Err fault.Long ∷ Err fault.Long ∷ Err (fault.Line 1024) ∷ []
unfolding assembling lines
long = refl

-- 1,025 lines of another kind are none too many
many : assembled (lines 1025 (codes ";\n") ++ codes "wait\n") ≡ Ok (0xf000 ∷ [])
unfolding assembling lines
many = refl

-- ---- listings ----

-- the image `full` of the examples
full : source_text (0x1210 ∷ 0x2210 ∷ 0x1407 ∷ 0x2468 ∷ 0xc440 ∷ 0xc441 ∷ 0xf000 ∷ 0xd1fe ∷ [])
    ≡ codes "ldi r1,16\nldx r1,16\nldi r2,7\nldx r2,104\nst r2,r1,0\nst r2,r1,1\nwait\njz r0,-2\n"
unfolding listing
full = refl

-- words of each form
each : source_text (0x0000 ∷ 0x1fff ∷ 0x2e7f ∷ 0x3fc0 ∷ 0x4ff8 ∷ 0x5ff8 ∷ 0x6ff8 ∷ 0x7ff8 ∷ 0x8ff8 ∷ 0x9fcf ∷ 0xaff8 ∷ 0xbfff ∷ 0xcfff ∷ 0xdeff
    ∷ 0xefdf ∷ 0xf000 ∷ 0xfe01 ∷ 0xffff ∷ [])
    ≡ codes "nop\nldi r7,511\nldx r7,127\nmov r7,r7\nadd r7,r7,r7\nsub r7,r7,r7\nand r7,r7,r7\nor r7,r7,r7\nxor r7,r7,r7\n"
    ++ codes "shr r7,r7,15\nmul r7,r7,r7\nld r7,r7,63\nst r7,r7,63\njz r7,255\njlt r7,r7,31\nwait\njr r7\nword 65535\n"
unfolding listing
each = refl

-- words with a bit that no form names
unnamed_bits : source_text (0x0001 ∷ 0xf002 ∷ 0x2080 ∷ 0x3001 ∷ 0x4001 ∷ 0x9010 ∷ 0xf200 ∷ 0xf003 ∷ [])
    ≡ codes "word 1\nword 61442\nword 8320\nword 12289\nword 16385\nword 36880\nword 61952\nword 61443\n"
unfolding listing
unnamed_bits = refl

-- an image has two bytes a word, the higher first
image : image_text (0xf000 ∷ 0xd1fe ∷ 0x0001 ∷ []) ≡ codes "f000\nd1fe\n0001\n"
unfolding hex_on_literals
image = refl
