-- Each instruction but `word` means one of the machine.
use Rattle.std.proofs.Common.{◌≡◌, ◌≢◌, ◌∙◌, sym, refl, ℕ, ◌+◌, ◌*◌, ℤ, List, [], ◌∷◌, Option, Some, None, codes, arith}
use Rattle.std.specs.Prelude.{option_map, option_and_then}
use Rattle.std.specs.List.{AllByRecursion, AllZip}
use Rattle.std.specs.Str.{bytes_eq}
use Rattle.eg_word.specs.declared.instruction.Instruction.{Instruction}
use Rattle.eg_word.specs.declared.instruction.Instruction.TheVariants as machine
use Rattle.eg_asm.specs.declared.operand.Operand.{Operand}
use Rattle.eg_asm.specs.declared.operand.Operand.TheVariants as operand
use Rattle.eg_asm.specs.Forms.{Form, forms, form_named}
use Rattle.eg_asm.specs.Grammar.{Value, Register, Number, Instruction as instruction, Fits, IsItem}
use Rattle.eg_asm.specs.Words.{Labels, complement_of, distance_to, added, field_of, fields_of, word_with, word_of}
use Rattle.eg_asm.specs.Meanings.{Means, nop, ldi, ldx, mov, add, sub, and, or, xor, shr, mul, ld, st, jz, jlt, wait, jr}
use Rattle.eg_asm.proofs.FormLemmas.{form_named-mnemonic}
use Rattle.eg_word.specs.Instructions.{instruction_of}
use Rattle.eg_asm.proofs.LineLaws.{instruction-form}
use Rattle.eg_asm.proofs.MeaningLaws.{meaning-law}
use Rattle.eg_asm.proofs.ListingLaws.{find-all_of}

-- ---- what fits ----

-- P holds of all values that the operands have the shape of: a number for each register and number, and any
-- value for a target
abbrev Shaped : List Operand → (List Value → Type 0) → Type 0
Shaped [] P = P []
Shaped (operand.Register weight ∷ operands) P = (n : ℕ) → Shaped operands (λ rest. P (Register n ∷ rest))
Shaped (operand.Number most ∷ operands) P = (n : ℕ) → Shaped operands (λ rest. P (Number n ∷ rest))
Shaped (operand.Target reach ∷ operands) P = (target : Value) → Shaped operands (λ rest. P (target ∷ rest))

-- values that fit have the shape
by_shape : (operands : List Operand) (P : List Value → Type 0) → Shaped operands P → (values : List Value) → AllZip Fits operands values → P values
unfolding Fits
by_shape [] P holds [] fit = holds
by_shape [] P holds (value ∷ values) fit = absurd fit
by_shape (o ∷ operands) P holds [] fit = absurd fit
by_shape (operand.Register weight ∷ operands) P holds (Register n ∷ rest) fit = by_shape operands (λ rest. P (Register n ∷ rest)) (holds n) rest fit.1
by_shape (operand.Number most ∷ operands) P holds (Number n ∷ rest) fit = by_shape operands (λ rest. P (Number n ∷ rest)) (holds n) rest fit.1
by_shape (operand.Target reach ∷ operands) P holds (target ∷ rest) fit = by_shape operands (λ rest. P (target ∷ rest)) (holds target) rest fit.1
by_shape (_ ∷ operands) P holds (_ ∷ rest) fit = absurd fit.0

-- ---- targets ----

-- there is a distance where the word has a field of it
distance_there : (base m reach : ℕ) (o : Option ℤ) (word : ℕ)
    → option_map (λ fields. base + fields) (added (Some m) (added (option_and_then (complement_of reach) o) (Some 0))) ≡ Some word → (d : ℤ) × (o ≡ Some d)
distance_there base m reach None word is = absurd cc
distance_there base m reach (Some d) word is = (d, refl)

distance_behind : (base m n reach : ℕ) (o : Option ℤ) (word : ℕ)
    → option_map (λ fields. base + fields) (added (Some m) (added (Some n) (added (option_and_then (complement_of reach) o) (Some 0)))) ≡ Some word
    → (d : ℤ) × (o ≡ Some d)
distance_behind base m n reach None word is = absurd cc
distance_behind base m n reach (Some d) word is = (d, refl)

-- ---- forms ----

-- values of the shape of an instruction of this form mean something, where it has a word
abbrev Meant : Form → Type 0
Meant f = (labels : Labels) (address word : ℕ) → Shaped f.operands (λ values.
    option_map (λ fields. f.base + fields) (fields_of labels address f.operands values) ≡ Some word → (i : Instruction) × Means labels address f.mnemonic values i)

-- each form but the last one
abbrev IsMeant : Form → Type 0
IsMeant f = f.mnemonic ≢ codes "word" → Meant f

infixr 5 ◌then◌
◌then◌ : {A B : Type 0} → A → B → A × B
first then rest = (first, rest)

all_meant : AllByRecursion IsMeant forms
unfolding forms fields_of field_of
all_meant =
    (λ other labels address word is. (machine.Nop, nop)) then
    (λ other labels address word a n is. (machine.Ldi a n, ldi a n)) then
    (λ other labels address word a n is. (machine.Ldx a n, ldx a n)) then
    (λ other labels address word a b is. (machine.Mov a b, mov a b)) then
    (λ other labels address word a b c is. (machine.Add a b c, add a b c)) then
    (λ other labels address word a b c is. (machine.Sub a b c, sub a b c)) then
    (λ other labels address word a b c is. (machine.And a b c, and a b c)) then
    (λ other labels address word a b c is. (machine.Or a b c, or a b c)) then
    (λ other labels address word a b c is. (machine.Xor a b c, xor a b c)) then
    (λ other labels address word a b n is. (machine.Shr a b n, shr a b n)) then
    (λ other labels address word a b c is. (machine.Mul a b c, mul a b c)) then
    (λ other labels address word a b n is. (machine.Ld a b n, ld a b n)) then
    (λ other labels address word a b n is. (machine.St a b n, st a b n)) then
    (λ other labels address word a target is.
    let d = distance_there 0xd000 (a * 512) 256 (distance_to labels address target) word is in (machine.Jz a d.0, jz a target d.0 d.1)) then
    (λ other labels address word a b target is.
    let d = distance_behind 0xe000 (a * 512) (b * 64) 32 (distance_to labels address target) word is in (machine.Jlt a b d.0, jlt a b target d.0 d.1)) then
    (λ other labels address word is. (machine.Wait, wait)) then
    (λ other labels address word a is. (machine.Jr a, jr a)) then
    (λ other. absurd (other refl)) then
    tt

-- an instruction but `word` means something, where it has a word
pub meant-law : (labels : Labels) (address : ℕ) (mnemonic : List ℕ) (values : List Value) (word : ℕ) → mnemonic ≢ codes "word"
    → IsItem (instruction mnemonic values) → word_of labels address mnemonic values ≡ Some word
    → (i : Instruction) × Means labels address mnemonic values i
unfolding word_of word_with form_named
meant-law labels address mnemonic values word other item is =
    let form = instruction-form mnemonic values item in
    let f = form.0 in
    let same : f.mnemonic ≡ mnemonic = form_named-mnemonic mnemonic f form.1 in
    let meant = find-all_of IsMeant (λ f. bytes_eq f.mnemonic mnemonic) forms f all_meant form.1 in
    let P : List Value → Type 0 = λ values. option_map (λ fields. f.base + fields) (fields_of labels address f.operands values) ≡ Some word
    → (i : Instruction) × Means labels address f.mnemonic values i in
    rw (← same) (by_shape f.operands P (meant (λ named. other (sym same ∙ named)) labels address word) values form.2 (rw form.1 at is))

-- the machine reads its word as what it means
pub read-law : (labels : Labels) (address word : ℕ) (mnemonic : List ℕ) (values : List Value) → mnemonic ≢ codes "word"
    → IsItem (instruction mnemonic values) → word_of labels address mnemonic values ≡ Some word
    → Means labels address mnemonic values (instruction_of word)
read-law labels address word mnemonic values other item is =
    let means = meant-law labels address mnemonic values word other item is in
    rw (meaning-law labels address mnemonic values means.0 word means.1 item is) means.1

pub any-law : (labels : Labels) (address word : ℕ) → word_of labels address (codes "word") (Number word ∷ []) ≡ Some word
unfolding word_of word_with fields_of field_of form_named forms
any-law labels address word = let sum : 0 + (word + 0) ≡ word = omega arith in rw sum refl
