-- What the instructions of a source mean to the machine (F28, F43).
use Rattle.std.specs.Prelude.{◌≡◌, ℕ, ℤ, List, [], ◌∷◌, codes, Some}
use Rattle.eg_word.specs.declared.instruction.Instruction.{Instruction}
use Rattle.eg_word.specs.declared.instruction.Instruction.TheVariants as machine
use Rattle.eg_asm.specs.Grammar.{Value, Register, Number}
use Rattle.eg_asm.specs.Words.{Labels, distance_to}

-- operands: a register and a number, three registers, or two registers and a number
abbrev pub of_number : (a n : ℕ) → List Value
of_number a n = Register a ∷ Number n ∷ []

abbrev pub of_three : (a b c : ℕ) → List Value
of_three a b c = Register a ∷ Register b ∷ Register c ∷ []

abbrev pub of_two : (a b n : ℕ) → List Value
of_two a b n = Register a ∷ Register b ∷ Number n ∷ []

-- F28: the machine's instruction that a name and its operands mean at this address among these labels. `word`
-- means none, since it writes any word.
pub data Means (labels : Labels) (address : ℕ) : List ℕ → List Value → Instruction → Type 0 where
  nop : Means labels address (codes "nop") [] machine.Nop
  ldi : (a n : ℕ) → Means labels address (codes "ldi") (of_number a n) (machine.Ldi a n)
  ldx : (a n : ℕ) → Means labels address (codes "ldx") (of_number a n) (machine.Ldx a n)
  mov : (a b : ℕ) → Means labels address (codes "mov") (Register a ∷ Register b ∷ []) (machine.Mov a b)
  add : (a b c : ℕ) → Means labels address (codes "add") (of_three a b c) (machine.Add a b c)
  sub : (a b c : ℕ) → Means labels address (codes "sub") (of_three a b c) (machine.Sub a b c)
  and : (a b c : ℕ) → Means labels address (codes "and") (of_three a b c) (machine.And a b c)
  or : (a b c : ℕ) → Means labels address (codes "or") (of_three a b c) (machine.Or a b c)
  xor : (a b c : ℕ) → Means labels address (codes "xor") (of_three a b c) (machine.Xor a b c)
  shr : (a b n : ℕ) → Means labels address (codes "shr") (of_two a b n) (machine.Shr a b n)
  mul : (a b c : ℕ) → Means labels address (codes "mul") (of_three a b c) (machine.Mul a b c)
  ld : (a b n : ℕ) → Means labels address (codes "ld") (of_two a b n) (machine.Ld a b n)
  st : (a b n : ℕ) → Means labels address (codes "st") (of_two a b n) (machine.St a b n)
  jz : (a : ℕ) (target : Value) (distance : ℤ) → distance_to labels address target ≡ Some distance
      → Means labels address (codes "jz") (Register a ∷ target ∷ []) (machine.Jz a distance)
  jlt : (a b : ℕ) (target : Value) (distance : ℤ) → distance_to labels address target ≡ Some distance
      → Means labels address (codes "jlt") (Register a ∷ Register b ∷ target ∷ []) (machine.Jlt a b distance)
  wait : Means labels address (codes "wait") [] machine.Wait
  jr : (a : ℕ) → Means labels address (codes "jr") (Register a ∷ []) (machine.Jr a)
