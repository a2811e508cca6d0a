-- The machine reads the word of an instruction as what the instruction means.
use Rattle.std.proofs.Common.{◌≡◌, ◌∙◌, ap, refl, ℕ, ◌+◌, ◌*◌, ◌-◌, ◌%◌, ◌/◌, ◌<◌, ℤ, pos, negsuc, ◌-ℤ◌, List, false, Option, Some, None, arith}
use Rattle.std.specs.Prelude.{nat_lt, option_map}
use Rattle.std.proofs.lemmas.Bool.Decides.{nat_tests}
use Rattle.std.proofs.lemmas.Int.{ints}
use Rattle.std.proofs.lemmas.Option.{cond_some}
use Rattle.eg_word.specs.Instructions.{signed, instruction_with, instruction_of}
use Rattle.eg_word.specs.declared.instruction.Instruction.{Instruction}
use Rattle.eg_word.specs.declared.instruction.Instruction.TheVariants as machine
use Rattle.eg_asm.specs.Forms.{forms, form_named}
use Rattle.eg_asm.specs.Grammar.{Value, Instruction as instruction, Fits, IsItem}
use Rattle.eg_asm.specs.Words.{Labels, complement_of, added, field_of, fields_of, word_with, word_of}
use Rattle.eg_asm.specs.Meanings.{Means, nop, ldi, ldx, mov, add, sub, and, or, xor, shr, mul, ld, st, jz, jlt, wait, jr}

-- ---- fields of a word ----

-- a word whose last nine bits are one field
wide : (word op a n : ℕ) → a < 8 → n < 512 → op * 4096 + (a * 512 + n) ≡ word → instruction_of word ≡ instruction_with op a (n / 64) (n / 8 % 8) (n % 64) n
wide word op a n a_few n_few is =
    let op_is : word / 4096 ≡ op = omega arith in
    let a_is : word / 512 % 8 ≡ a = omega arith in
    let b_is : word / 64 % 8 ≡ n / 64 = omega arith in
    let c_is : word / 8 % 8 ≡ n / 8 % 8 = omega arith in
    let n6_is : word % 64 ≡ n % 64 = omega arith in
    let n9_is : word % 512 ≡ n = omega arith in
    rw (op_is, a_is, b_is, c_is, n6_is, n9_is) refl

-- a word whose last six bits are one field
narrow : (word op a b n : ℕ) → a < 8 → b < 8 → n < 64 → op * 4096 + (a * 512 + (b * 64 + n)) ≡ word → instruction_of word ≡ instruction_with op a b (n / 8) n (b * 64 + n)
narrow word op a b n a_few b_few n_few is =
    let op_is : word / 4096 ≡ op = omega arith in
    let a_is : word / 512 % 8 ≡ a = omega arith in
    let b_is : word / 64 % 8 ≡ b = omega arith in
    let c_is : word / 8 % 8 ≡ n / 8 = omega arith in
    let n6_is : word % 64 ≡ n = omega arith in
    let n9_is : word % 512 ≡ b * 64 + n = omega arith in
    rw (op_is, a_is, b_is, c_is, n6_is, n9_is) refl

-- a word of three registers
three : (word op a b c : ℕ) → a < 8 → b < 8 → c < 8 → op * 4096 + (a * 512 + (b * 64 + (c * 8 + 0))) ≡ word
    → instruction_of word ≡ instruction_with op a b c (c * 8) (b * 64 + c * 8)
three word op a b c a_few b_few c_few is =
    let c_is : c * 8 / 8 ≡ c = omega arith in
    narrow word op a b (c * 8) a_few b_few (omega arith) (omega arith) ∙ rw c_is refl

-- a distance is read back from its complement
signed-complement : (reach : ℕ) (d : ℤ) (n : ℕ) → complement_of reach d ≡ Some n → (n < 2 * reach) × (signed reach n ≡ d)
unfolding complement_of signed
signed-complement reach (pos m) n is = (grind (arith, nat_tests), grind (arith, nat_tests))
signed-complement reach (negsuc m) n is =
    let same = (cond_some (nat_lt m reach) (2 * reach - (m + 1)) n is).1 in
    let low : m < reach = grind (arith, nat_tests) in
    let outside : nat_lt n reach ≡ false = grind (arith, nat_tests) in
    let below : pos n -ℤ pos (2 * reach) ≡ negsuc m = omega (arith, ints) in
    (omega arith, rw outside below)

-- ---- instructions ----

jz_read : (word a : ℕ) (d : ℤ) → a < 8 → option_map (λ fields. 53248 + fields) (added (Some (a * 512)) (added (complement_of 256 d) (Some 0)))
    ≡ Some word → instruction_of word ≡ machine.Jz a d
unfolding instruction_with
jz_read word a d a_few is = at (complement_of 256 d) refl is
  where
    at : (o : Option ℕ) → complement_of 256 d ≡ o → option_map (λ fields. 53248 + fields) (added (Some (a * 512)) (added o (Some 0))) ≡ Some word
        → instruction_of word ≡ machine.Jz a d
    at None out is = absurd cc
    at (Some n) inside is =
        let same : 53248 + (a * 512 + (n + 0)) ≡ word = cc in
        let back = signed-complement 256 d n inside in
        wide word 13 a n a_few (let few = back.0 in omega arith) (omega arith) ∙ ap (machine.Jz a) back.1

jlt_read : (word a b : ℕ) (d : ℤ) → a < 8 → b < 8
    → option_map (λ fields. 57344 + fields) (added (Some (a * 512)) (added (Some (b * 64)) (added (complement_of 32 d) (Some 0)))) ≡ Some word
    → instruction_of word ≡ machine.Jlt a b d
unfolding instruction_with
jlt_read word a b d a_few b_few is = at (complement_of 32 d) refl is
  where
    at : (o : Option ℕ) → complement_of 32 d ≡ o
        → option_map (λ fields. 57344 + fields) (added (Some (a * 512)) (added (Some (b * 64)) (added o (Some 0)))) ≡ Some word → instruction_of word ≡ machine.Jlt a b d
    at None out is = absurd cc
    at (Some n) inside is =
        let same : 57344 + (a * 512 + (b * 64 + (n + 0))) ≡ word = cc in
        let back = signed-complement 32 d n inside in
        narrow word 14 a b n a_few b_few (let few = back.0 in omega arith) (omega arith) ∙ ap (machine.Jlt a b) back.1

pub meaning-law : (labels : Labels) (address : ℕ) (mnemonic : List ℕ) (values : List Value) (means : Instruction) (word : ℕ) → Means labels address mnemonic values means
    → IsItem (instruction mnemonic values) → word_of labels address mnemonic values ≡ Some word → instruction_of word ≡ means
unfolding IsItem forms form_named Fits word_of word_with fields_of field_of instruction_with
meaning-law labels address mnemonic values means word nop item is = let same : 0 ≡ word = cc in wide word 0 0 0 (omega arith) (omega arith) (omega arith)
meaning-law labels address mnemonic values means word (ldi a n) item is =
    let few = item.1.0 in let same : 4096 + (a * 512 + (n + 0)) ≡ word = cc in wide word 1 a n item.0 (omega arith) (omega arith)
meaning-law labels address mnemonic values means word (ldx a n) item is =
    let few = item.1.0 in let same : 8192 + (a * 512 + (n + 0)) ≡ word = cc in wide word 2 a n item.0 (omega arith) (omega arith)
meaning-law labels address mnemonic values means word (mov a b) item is =
    let same : 12288 + (a * 512 + (b * 64 + 0)) ≡ word = cc in narrow word 3 a b 0 item.0 item.1.0 (omega arith) (omega arith)
meaning-law labels address mnemonic values means word (add a b c) item is =
    let same : 16384 + (a * 512 + (b * 64 + (c * 8 + 0))) ≡ word = cc in three word 4 a b c item.0 item.1.0 item.1.1.0 (omega arith)
meaning-law labels address mnemonic values means word (sub a b c) item is =
    let same : 20480 + (a * 512 + (b * 64 + (c * 8 + 0))) ≡ word = cc in three word 5 a b c item.0 item.1.0 item.1.1.0 (omega arith)
meaning-law labels address mnemonic values means word (and a b c) item is =
    let same : 24576 + (a * 512 + (b * 64 + (c * 8 + 0))) ≡ word = cc in three word 6 a b c item.0 item.1.0 item.1.1.0 (omega arith)
meaning-law labels address mnemonic values means word (or a b c) item is =
    let same : 28672 + (a * 512 + (b * 64 + (c * 8 + 0))) ≡ word = cc in three word 7 a b c item.0 item.1.0 item.1.1.0 (omega arith)
meaning-law labels address mnemonic values means word (xor a b c) item is =
    let same : 32768 + (a * 512 + (b * 64 + (c * 8 + 0))) ≡ word = cc in three word 8 a b c item.0 item.1.0 item.1.1.0 (omega arith)
meaning-law labels address mnemonic values means word (shr a b n) item is =
    let few = item.1.1.0 in let same : 36864 + (a * 512 + (b * 64 + (n + 0))) ≡ word = cc in narrow word 9 a b n item.0 item.1.0 (omega arith) (omega arith)
meaning-law labels address mnemonic values means word (mul a b c) item is =
    let same : 40960 + (a * 512 + (b * 64 + (c * 8 + 0))) ≡ word = cc in three word 10 a b c item.0 item.1.0 item.1.1.0 (omega arith)
meaning-law labels address mnemonic values means word (ld a b n) item is =
    let few = item.1.1.0 in let same : 45056 + (a * 512 + (b * 64 + (n + 0))) ≡ word = cc in narrow word 11 a b n item.0 item.1.0 (omega arith) (omega arith)
meaning-law labels address mnemonic values means word (st a b n) item is =
    let few = item.1.1.0 in let same : 49152 + (a * 512 + (b * 64 + (n + 0))) ≡ word = cc in narrow word 12 a b n item.0 item.1.0 (omega arith) (omega arith)
meaning-law labels address mnemonic values means word (jz a target d there) item is = let made = rw there at is in jz_read word a d item.0 made
meaning-law labels address mnemonic values means word (jlt a b target d there) item is = let made = rw there at is in jlt_read word a b d item.0 item.1.0 made
meaning-law labels address mnemonic values means word wait item is = let same : 61440 ≡ word = cc in wide word 15 0 0 (omega arith) (omega arith) (omega arith)
meaning-law labels address mnemonic values means word (jr a) item is = let same : 61441 + (a * 512 + 0) ≡ word = cc in wide word 15 a 1 item.0 (omega arith) (omega arith)
