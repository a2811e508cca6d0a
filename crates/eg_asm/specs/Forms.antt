-- The forms of instructions (F25, F43). There are eighteen, and any word is of the last. Assembling and
-- disassembling both use this table.
use Rattle.std.specs.Prelude.{ℕ, List, [], ◌∷◌, codes, Option, find}
use Rattle.std.specs.Str.{bytes_eq}
use Rattle.eg_asm.specs.declared.operand.Operand.{Operand}
use Rattle.eg_asm.specs.declared.operand.Operand.TheVariants.{Register, Number, Target}

-- a name, the word with 0 in each operand, and the operands in the order in which they are written
pub record Form : Type 0 where
  pub mnemonic : List ℕ
  pub base : ℕ
  pub operands : List Operand

abbrev pub form : List ℕ → ℕ → List Operand → Form
form mnemonic base operands = record { mnemonic = mnemonic; base = base; operands = operands }

-- F43: bits 11 to 9, 8 to 6 and 5 to 3
abbrev pub rA : Operand
rA = Register 512

abbrev pub rB : Operand
rB = Register 64

abbrev pub rC : Operand
rC = Register 8

-- F25, `word n16`
abbrev pub word_form : Form
word_form = form (codes "word") 0x0000 (Number 65535 ∷ [])

-- F25, F43
unfoldable pub forms : List Form
forms =
    form (codes "nop") 0x0000 [] ∷
    form (codes "ldi") 0x1000 (rA ∷ Number 511 ∷ []) ∷
    form (codes "ldx") 0x2000 (rA ∷ Number 127 ∷ []) ∷
    form (codes "mov") 0x3000 (rA ∷ rB ∷ []) ∷
    form (codes "add") 0x4000 (rA ∷ rB ∷ rC ∷ []) ∷
    form (codes "sub") 0x5000 (rA ∷ rB ∷ rC ∷ []) ∷
    form (codes "and") 0x6000 (rA ∷ rB ∷ rC ∷ []) ∷
    form (codes "or") 0x7000 (rA ∷ rB ∷ rC ∷ []) ∷
    form (codes "xor") 0x8000 (rA ∷ rB ∷ rC ∷ []) ∷
    form (codes "shr") 0x9000 (rA ∷ rB ∷ Number 15 ∷ []) ∷
    form (codes "mul") 0xa000 (rA ∷ rB ∷ rC ∷ []) ∷
    form (codes "ld") 0xb000 (rA ∷ rB ∷ Number 63 ∷ []) ∷
    form (codes "st") 0xc000 (rA ∷ rB ∷ Number 63 ∷ []) ∷
    form (codes "jz") 0xd000 (rA ∷ Target 256 ∷ []) ∷
    form (codes "jlt") 0xe000 (rA ∷ rB ∷ Target 32 ∷ []) ∷
    form (codes "wait") 0xf000 [] ∷
    form (codes "jr") 0xf001 (rA ∷ []) ∷
    word_form ∷ []

unfoldable pub form_named : List ℕ → Option Form
form_named mnemonic = find (λ f. bytes_eq f.mnemonic mnemonic) forms
