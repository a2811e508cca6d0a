-- A word is written in at most 14 bytes.
use Rattle.std.proofs.Common.{◌≡◌, refl, ℕ, ◌+◌, ◌*◌, ◌-◌, ◌%◌, ◌/◌, ◌^◌, ◌<◌, ◌≤◌, List, [], ◌∷◌, ◌++◌, length, get_or, map, true, false, Option, Some, None, arith, lit<, lit≤, mod-lt, length-append, inl, inr}
use Rattle.std.specs.Prelude.{◌==◌, ◌&&◌, nat_le, find, unwrap_or}
use Rattle.std.specs.List.{join_with_byte, list_all}
use Rattle.std.specs.Int.Digits.{digits_of}
use Rattle.std.proofs.lemmas.Bool.Decides.{nat_tests}
use Rattle.std.proofs.lemmas.Int.Digits.{all_below_base_digits_of, first_digits_of, length-digits_of-le, number_digits_of, number_lt}
use Rattle.std.proofs.lemmas.List.{length-map}
use Rattle.std.proofs.lemmas.Bool.{cases_Bool, cases_lt, and_parts}
use Rattle.eg_asm.specs.declared.operand.Operand.{Operand}
use Rattle.eg_asm.specs.declared.operand.Operand.TheVariants as operand
use Rattle.eg_asm.specs.Forms.{Form, forms, word_form}
use Rattle.eg_asm.specs.Numerals.{numeral}
use Rattle.eg_asm.specs.Grammar.{text_of_value, text_of_values, text_of, line_of}
use Rattle.eg_asm.specs.Inner.Usable.{is_usable}
use Rattle.eg_asm.specs.Listings.{value_in, values_in, is_of, form_of, item_of, source_text}
use Rattle.eg_asm.proofs.FormLemmas.{find-all}
use Rattle.eg_asm.proofs.ListingLemmas.{signed-low, signed-high}
use Rattle.eg_asm.proofs.ValueLaws.{numeral-digit}

-- ---- numerals ----

some-digit : (ds : List ℕ) → 0 < get_or ds 0 0 → 1 ≤ length ds
some-digit [] h = absurd (omega arith)
some-digit (d ∷ ds) h = omega arith

numeral-some : (n : ℕ) → 1 ≤ length (numeral n)
unfolding numeral
numeral-some n = elim (cases_Bool (n == 0)) [
  | inl zero ↦ rw zero (lit≤ tt)
  | inr more ↦ rw more (omega (
    arith,
    length-map (digits_of 10 n) (λ digit. 48 + digit),
    some-digit (digits_of 10 n) (first_digits_of 10 n (lit≤ tt) (grind (arith, nat_tests))),
  ))
]

-- a lower number has no longer numeral
numeral-length : (m n : ℕ) → m ≤ n → length (numeral m) ≤ length (numeral n)
unfolding numeral
numeral-length m n low = elim (cases_Bool (m == 0)) [
  | inl none ↦ rw none (numeral-some n)
  | inr some ↦ (let more : (n == 0) ≡ false = grind (arith, nat_tests) in
      let k = length (digits_of 10 n) in
      let small : n < 10 ^ k = omega (arith, number_lt 10 (digits_of 10 n) (all_below_base_digits_of 10 n (lit≤ tt)), number_digits_of 10 n (lit≤ tt)) in
      let few : length (digits_of 10 m) ≤ k = length-digits_of-le 10 k m (lit≤ tt) (omega arith) in
      rw (some, more) (omega (arith, length-map (digits_of 10 m) (λ digit. 48 + digit), length-map (digits_of 10 n) (λ digit. 48 + digit))))
]

-- ---- operands ----

-- the most bytes that an operand is written in
longest : Operand → ℕ
longest (operand.Register weight) = 2
longest (operand.Number most) = length (numeral most)
longest (operand.Target reach) = 1 + length (numeral reach)

value-length : (word : ℕ) (o : Operand) → is_usable o ≡ true → length (text_of_value (value_in word o)) ≤ longest o
unfolding text_of_value value_in longest is_usable
value-length word (operand.Register weight) usable =
    let small : word / weight % 8 < 10 = (let eight : 0 < 8 = lit< tt in let few = mod-lt (word / weight) eight in omega arith) in
    rw (numeral-digit (word / weight % 8) small) (lit≤ tt)
value-length word (operand.Number most) usable =
    let some : 0 < most + 1 = omega arith in
    numeral-length (word % (most + 1)) most (let small = mod-lt word some in omega arith)
value-length word (operand.Target reach) usable =
    let some : 0 < 2 * reach = grind (arith, nat_tests) in
    let n = word % (2 * reach) in
    let small : n < 2 * reach = mod-lt word some in
    elim (cases_lt n reach) [
      | inl below ↦ rw (signed-low reach n below) (omega (arith, numeral-length n reach (omega arith)))
      | inr above ↦ rw (signed-high reach n above small) (omega (arith, numeral-length (2 * reach - n) reach (omega arith)))
    ]

-- the most bytes that operands are written in, with what stands before each of them
longest_all : List Operand → ℕ
longest_all [] = 0
longest_all (o ∷ operands) = 1 + longest o + longest_all operands

joined-length : (word : ℕ) (o : Operand) (operands : List Operand) → list_all is_usable (o ∷ operands) ≡ true
    → length (join_with_byte 44 (map text_of_value (map (value_in word) (o ∷ operands)))) + 1 ≤ longest_all (o ∷ operands)
unfolding longest_all
joined-length word o [] usable = omega (arith, value-length word o (and_parts (is_usable o) true usable).0)
joined-length word o (p ∷ operands) usable =
    let parts = and_parts (is_usable o) (list_all is_usable (p ∷ operands)) usable in
    omega (
      arith,
      value-length word o parts.0,
      joined-length word p operands parts.1,
      length-append (text_of_value (value_in word o)) (44 ∷ join_with_byte 44 (map text_of_value (map (value_in word) (p ∷ operands)))),
    )

values-length : (word : ℕ) (operands : List Operand) → list_all is_usable operands ≡ true → length (text_of_values (map (value_in word) operands)) ≤ longest_all operands
unfolding text_of_values longest_all
values-length word [] usable = omega arith
values-length word (o ∷ operands) usable = omega (arith, joined-length word o operands usable)

-- ---- forms ----

-- no line of a form is longer than 14 bytes
all_short : list_all (λ f. list_all is_usable f.operands && nat_le (length f.mnemonic + longest_all f.operands + 1) 14) forms ≡ true
unfolding forms longest_all longest is_usable numeral
all_short = refl

last_short : (list_all is_usable word_form.operands && nat_le (length word_form.mnemonic + longest_all word_form.operands + 1) 14) ≡ true
unfolding longest_all longest is_usable numeral
last_short = refl

form-short : (word : ℕ) → (list_all is_usable (form_of word).operands && nat_le (length (form_of word).mnemonic + longest_all (form_of word).operands + 1) 14) ≡ true
unfolding form_of
form-short word = at (find (is_of word) forms) refl
  where
    at : (o : Option Form) → find (is_of word) forms ≡ o
        → (list_all is_usable (unwrap_or o word_form).operands && nat_le (length (unwrap_or o word_form).mnemonic + longest_all (unwrap_or o word_form).operands + 1) 14) ≡ true
    at None is = last_short
    at (Some f) is = find-all (is_of word) (λ f. list_all is_usable f.operands && nat_le (length f.mnemonic + longest_all f.operands + 1) 14) forms f all_short is

line-length : (word : ℕ) → length (line_of (item_of word)) ≤ 14
unfolding line_of text_of item_of
line-length word =
    let f = form_of word in
    let values = text_of_values (values_in word f) in
    let parts = and_parts (list_all is_usable f.operands) (nat_le (length f.mnemonic + longest_all f.operands + 1) 14) (form-short word) in
    let few : length f.mnemonic + longest_all f.operands + 1 ≤ 14 = grind (arith, nat_tests) in
    omega (arith, length-append (f.mnemonic ++ values) (10 ∷ []), length-append f.mnemonic values, values-length word f.operands parts.0)

-- ---- words ----

pub short-law : (words : List ℕ) → length (source_text words) ≤ 14 * length words
short-law [] = omega arith
short-law (word ∷ words) = omega (arith, length-append (line_of (item_of word)) (source_text words), line-length word, short-law words)
