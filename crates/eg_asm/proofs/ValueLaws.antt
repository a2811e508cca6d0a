-- Reading an operand undoes writing it.
use Rattle.std.proofs.Common.{◌≡◌, ap, refl, ℕ, ◌+◌, ◌-◌, ◌<◌, ◌≤◌, ℤ, List, [], ◌∷◌, ◌++◌, length, true, false, Some, None, arith, inl, inr}
use Rattle.std.specs.Prelude.{◌==◌, nat_lt, nat_le, codes, option_map, option_and_then}
use Rattle.std.proofs.lemmas.Bool.Decides.{nat_tests}
use Rattle.std.proofs.lemmas.Bool.{cases_Bool}
use Rattle.std.proofs.lemmas.Option.{cond_some, option_and_then_some, same_Some}
use Rattle.eg_asm.specs.declared.operand.Operand.{Operand}
use Rattle.eg_asm.specs.declared.operand.Operand.TheVariants as operand
use Rattle.eg_asm.specs.Numerals.{numeral, integer, is_name}
use Rattle.eg_asm.specs.Grammar.{Value, Register, Number, Name, Distance, Fits, text_of_value}
use Rattle.eg_asm.specs.Reading.{is_numeral, numeral_in, integer_in, at_most, register_in, target_in, value_of}
use Rattle.eg_asm.proofs.NumeralLaws.{numeral_in-numeral, numeral_in-back, integer_in-integer, integer_in-back, digits_one}
use Rattle.eg_asm.proofs.FormLemmas.{option_map_some}

-- ---- registers ----

-- a number of one digit
pub numeral-digit : (n : ℕ) → n < 10 → numeral n ≡ (48 + n) ∷ []
unfolding numeral
numeral-digit n small = elim (cases_Bool (n == 0)) [
  | inl zero ↦ (let none : n ≡ 0 = grind (arith, nat_tests) in rw none refl)
  | inr more ↦ rw (more, digits_one n (grind (arith, nat_tests)) small) refl
]

register_in-written : (n : ℕ) → n < 8 → register_in (codes "r" ++ numeral n) ≡ Some n
unfolding register_in
register_in-written n small =
    let low : nat_le 48 (48 + n) ≡ true = grind (arith, nat_tests) in
    let high : nat_le (48 + n) 55 ≡ true = grind (arith, nat_tests) in
    let same : 48 + n - 48 ≡ n = omega arith in
    rw (numeral-digit n (omega arith), low, high, same) refl

register_in-back : (text : List ℕ) (n : ℕ) → register_in text ≡ Some n → (n < 8) × (text ≡ codes "r" ++ numeral n)
unfolding register_in
register_in-back [] n is = absurd cc
register_in-back (a ∷ []) n is = absurd cc
register_in-back (a ∷ b ∷ c ∷ cs) n is = let long : (length (a ∷ b ∷ c ∷ cs) == 2) ≡ false = grind (arith, nat_tests) in let none = rw long at is in absurd cc
register_in-back (a ∷ b ∷ []) n is =
    let first : a ≡ 114 = grind (arith, nat_tests) in
    let small : n < 8 = grind (arith, nat_tests) in
    let second : b ≡ 48 + n = grind (arith, nat_tests) in
    (small, rw (first, second, numeral-digit n (omega arith)) refl)

-- ---- names ----

-- what begins with a letter is no number
letter_first : (b : ℕ) (bs : List ℕ) → 97 ≤ b → integer_in (b ∷ bs) ≡ None
unfolding integer_in numeral_in is_numeral
letter_first b bs letter =
    let sign : (b == 45) ≡ false = grind (arith, nat_tests) in
    let zero : (b == 48) ≡ false = grind (arith, nat_tests) in
    let low : nat_le 48 b ≡ true = grind (arith, nat_tests) in
    let more : nat_lt 48 b ≡ true = grind (arith, nat_tests) in
    let high : nat_le b 57 ≡ false = grind (arith, nat_tests) in
    rw (sign, zero, more, low, high) refl

-- a name is no number
pub name-no_integer : (text : List ℕ) → is_name text ≡ true → integer_in text ≡ None
unfolding is_name
name-no_integer [] name = absurd cc
name-no_integer (b ∷ bs) name = letter_first b bs (grind (arith, nat_tests))

-- ---- targets ----

target_in-name : (name : List ℕ) → is_name name ≡ true → target_in name ≡ Some (Name name)
unfolding target_in
target_in-name name is = rw is refl

target_in-distance : (d : ℤ) → target_in (integer d) ≡ Some (Distance d)
unfolding target_in
target_in-distance d = grind (arith, name-no_integer (integer d), integer_in-integer d)

target_in-back : (reach : ℕ) (text : List ℕ) (value : Value) → target_in text ≡ Some value → Fits (operand.Target reach) value × (text ≡ text_of_value value)
unfolding target_in Fits text_of_value
target_in-back reach text value is = elim (cases_Bool (is_name text)) [
  | inl name ↦ (let same : Some (Name text) ≡ Some value = rw name at is in rw (← same_Some (Name text) value same) (name, refl))
  | inr other ↦ (let h = option_map_some Distance (integer_in text) value (rw other at is) in rw (← h.2) (tt, integer_in-back text h.0 h.1))
]

-- ---- operands ----

-- a value that fits is read from what is written of it
pub value_of-written : (o : Operand) (value : Value) → Fits o value → value_of o (text_of_value value) ≡ Some value
unfolding value_of text_of_value Fits
value_of-written (operand.Register weight) (Register n) fits = ap (option_map Register) (register_in-written n fits)
value_of-written (operand.Number most) (Number n) fits =
    let small : nat_le n most ≡ true = grind (arith, nat_tests) in
    rw (numeral_in-numeral n, small) refl
value_of-written (operand.Target reach) (Name name) fits = target_in-name name fits
value_of-written (operand.Target reach) (Distance d) fits = target_in-distance d
value_of-written _ _ fits = absurd fits

-- a value that is read fits, and the text is what is written of it
pub value_of-back : (o : Operand) (text : List ℕ) (value : Value) → value_of o text ≡ Some value → Fits o value × (text ≡ text_of_value value)
unfolding value_of text_of_value Fits
value_of-back (operand.Register weight) text value is =
    let h = option_map_some Register (register_in text) value is in rw (← h.2) (register_in-back text h.0 h.1)
value_of-back (operand.Number most) text value is =
    let h = option_map_some Number (option_and_then (at_most most) (numeral_in text)) value is in
    option_and_then_some (at_most most) (numeral_in text) h.0 h.1 (λ n read low.
    let few = cond_some (nat_le n most) n h.0 low in rw (← h.2, ← few.1) (grind (arith, nat_tests), numeral_in-back text n read))
value_of-back (operand.Target reach) text value is = target_in-back reach text value is
