-- Reading a numeral undoes writing it.
use Rattle.std.proofs.Common.{◌≡◌, ◌∙◌, sym, ap, refl, ℕ, ◌+◌, ◌*◌, ◌-◌, ◌/◌, ◌%◌, ◌^◌, ◌<◌, ℤ, pos, negsuc, List, [], ◌∷◌, ◌++◌, drop, map, get_or, true, false, Some, arith, lit<, lit≤, append_assoc, append-nil, inl, inr}
use Rattle.std.specs.Prelude.{◌==◌, nat_lt, codes, fold, slice_index}
use Rattle.std.specs.Char.{is_ascii_digit}
use Rattle.std.specs.List.{list_all}
use Rattle.std.specs.Str.{bytes_eq}
use Rattle.std.specs.Int.Digits.{digits_of, AllBelowBase, number_from_digits, number_from_digits_after}
use Rattle.std.specs.Fmt.{digits, decimal}
use Rattle.std.proofs.lemmas.Bool.Decides.{nat_tests}
use Rattle.std.proofs.lemmas.Fmt.{decimal-digits_of}
use Rattle.std.proofs.lemmas.Int.Digits.{all_below_base_digits_of, digits_of_step, first_digits_of, number_digits_of, number_after_ge}
use Rattle.std.proofs.lemmas.Slice.Eq.{bytes_eq-Decides}
use Rattle.std.proofs.lemmas.Bool.{cases_Bool}
use Rattle.std.proofs.lemmas.Option.{option_and_then_some, cond_some}
use Rattle.eg_input.specs.Fields.{decimal_value}
use Rattle.eg_asm.specs.Numerals.{numeral, integer}
use Rattle.eg_asm.specs.Reading.{is_numeral, numeral_in, negative, integer_in}
use Rattle.eg_asm.proofs.FormLemmas.{option_map_some}

-- the digit that a number below ten is written as
abbrev digit : ℕ → ℕ
digit d = 48 + d

-- digits that are written are digits
are_digits : (ds : List ℕ) → AllBelowBase 10 ds → list_all is_ascii_digit (map digit ds) ≡ true
are_digits [] h = refl
are_digits (d ∷ ds) h = grind (arith, nat_tests, are_digits ds h.1, h.0)

-- a digit more
abbrev step : ℕ → ℕ → ℕ
step value digit = 10 * value + (digit - 48)

-- the digits of a number have the number's value
value_behind : (a : ℕ) (ds : List ℕ) → fold step a (map digit ds) ≡ number_from_digits_after 10 a ds
value_behind a [] = refl
value_behind a (d ∷ ds) = let same : 10 * a + (48 + d - 48) ≡ a * 10 + d = omega arith in ap (λ n. fold step n (map digit ds)) same ∙ value_behind (a * 10 + d) ds

-- a numeral of more than 0 is told by its first digit
numeral-more : (ds : List ℕ) → AllBelowBase 10 ds → 0 < get_or ds 0 0 → numeral_in (map digit ds) ≡ Some (number_from_digits 10 ds)
unfolding numeral_in is_numeral decimal_value
numeral-more [] h some = absurd (omega arith)
numeral-more (d ∷ ds) h some = grind (arith, nat_tests, are_digits (d ∷ ds) h, value_behind 0 (d ∷ ds))

-- a numeral is digits
pub numeral-digits : (n : ℕ) → list_all is_ascii_digit (numeral n) ≡ true
unfolding numeral
numeral-digits n = elim (cases_Bool (n == 0)) [
  | inl zero ↦ rw zero refl
  | inr more ↦ rw more (are_digits (digits_of 10 n) (all_below_base_digits_of 10 n (lit≤ tt)))
]

-- the numeral that is written of a number is read as that number
pub numeral_in-numeral : (n : ℕ) → numeral_in (numeral n) ≡ Some n
unfolding numeral numeral_in is_numeral decimal_value
numeral_in-numeral n = elim (cases_Bool (n == 0)) [
  | inl zero ↦ (let none : n ≡ 0 = grind (arith, nat_tests) in rw none refl)
  | inr more ↦ rw more (numeral-more (digits_of 10 n) (all_below_base_digits_of 10 n (lit≤ tt)) (first_digits_of 10 n (lit≤ tt) (grind (arith, nat_tests)))
      ∙ ap Some (number_digits_of 10 n (lit≤ tt)))
]

-- ---- back ----

-- digits behind those of a number that isn't 0 are those of the number that they make
digits_behind : (a : ℕ) (ds : List ℕ) → 0 < a → AllBelowBase 10 ds → digits_of 10 (number_from_digits_after 10 a ds) ≡ digits_of 10 a ++ ds
digits_behind a [] some h = sym (append-nil (digits_of 10 a))
digits_behind a (d ∷ ds) some h =
    let first = h.0 in
    let more : 0 < a * 10 + d = omega arith in
    let front : (a * 10 + d) / 10 ≡ a = omega arith in
    let last : (a * 10 + d) % 10 ≡ d = omega arith in
    digits_behind (a * 10 + d) ds more h.1 ∙ ap (λ (l : List ℕ). l ++ ds) (digits_of_step 10 (a * 10 + d) (lit≤ tt) more)
    ∙ rw (front, last) (append_assoc (digits_of 10 a) (d ∷ []) ds)

-- digits of which the first isn't 0 are those of the number that they make
pub digits_one : (d : ℕ) → 0 < d → d < 10 → digits_of 10 d ≡ d ∷ []
digits_one d some small =
    let none : d / 10 ≡ 0 = omega arith in
    let last : d % 10 ≡ d = omega arith in
    digits_of_step 10 d (lit≤ tt) some ∙ rw (none, last) refl

-- digits of which the first isn't 0 are those of the number that they make
digits_same : (d : ℕ) (ds : List ℕ) → 0 < d → AllBelowBase 10 (d ∷ ds) → digits_of 10 (number_from_digits 10 (d ∷ ds)) ≡ d ∷ ds
digits_same d ds some h =
    let same : 0 * 10 + d ≡ d = omega arith in
    ap (λ n. digits_of 10 (number_from_digits_after 10 n ds)) same ∙ digits_behind d ds some h.1 ∙ rw (digits_one d some h.0) refl

-- the digits of a text
digits_in : (text : List ℕ) → list_all is_ascii_digit text ≡ true → (ds : List ℕ) × AllBelowBase 10 ds × (text ≡ map digit ds)
digits_in [] h = ([], tt, refl)
digits_in (c ∷ cs) h =
    let rest = digits_in cs (grind arith) in
    let digit_is : 48 + (c - 48) ≡ c = grind (arith, nat_tests) in
    let small : c - 48 < 10 = grind (arith, nat_tests) in
    ((c - 48) ∷ rest.0, (small, rest.1), rw (digit_is, ← rest.2) refl)

-- the numeral of the number that they make
numeral-same : (d : ℕ) (ds : List ℕ) → 0 < d → AllBelowBase 10 (d ∷ ds) → numeral (number_from_digits 10 (d ∷ ds)) ≡ map digit (d ∷ ds)
unfolding numeral
numeral-same d ds some h =
    let least = number_after_ge 10 (0 * 10 + d) ds (lit< tt) in
    let more : (number_from_digits 10 (d ∷ ds) == 0) ≡ false = grind (arith, nat_tests) in
    rw more (ap (map digit) (digits_same d ds some h))

-- a text of digits, of which the first isn't 0
numeral-text : (text : List ℕ) → nat_lt 48 (slice_index text 0) ≡ true → (ds : List ℕ) × AllBelowBase 10 ds × (text ≡ map digit ds) → text ≡ numeral (fold step 0 text)
numeral-text text first ([], below, is) = let none = ap (λ (l : List ℕ). slice_index l 0) is in absurd (grind (arith, nat_tests))
numeral-text text first (d ∷ ds, below, is) =
    let more : 0 < d = (let e = ap (λ (l : List ℕ). slice_index l 0) is in grind (arith, nat_tests)) in
    is ∙ sym (numeral-same d ds more below) ∙ ap numeral (sym (value_behind 0 (d ∷ ds)) ∙ ap (fold step 0) (sym is))

-- a text that is read as a number is what is written of it
pub numeral_in-back : (text : List ℕ) (n : ℕ) → numeral_in text ≡ Some n → text ≡ numeral n
unfolding numeral numeral_in is_numeral decimal_value
numeral_in-back text n is =
    let value = (cond_some (is_numeral text) (fold step 0 text) n is).1 in
    elim (cases_Bool (bytes_eq text (codes "0"))) [
      | inl zero ↦ (let alone : text ≡ codes "0" = (bytes_eq-Decides text (codes "0")).0 zero in
          let none : n ≡ 0 = sym value ∙ rw alone refl in rw (none, alone) refl)
      | inr more ↦ numeral-text text (grind arith) (digits_in text (grind arith)) ∙ ap numeral value
    ]

-- ---- with a sign ----

-- a numeral doesn't begin with a sign
numeral-first : (n : ℕ) → (slice_index (numeral n) 0 == 45) ≡ false
unfolding numeral
numeral-first n = elim (cases_Bool (n == 0)) [
  | inl zero ↦ rw zero refl
  | inr more ↦ rw more (first (digits_of 10 n) (first_digits_of 10 n (lit≤ tt) (grind (arith, nat_tests))))
]
  where
    first : (ds : List ℕ) → 0 < get_or ds 0 0 → (slice_index (map digit ds) 0 == 45) ≡ false
    first [] h = absurd (omega arith)
    first (d ∷ ds) h = grind (arith, nat_tests)

pub integer_in-integer : (d : ℤ) → integer_in (integer d) ≡ Some d
unfolding integer integer_in
integer_in-integer (pos n) = rw (numeral-first n, numeral_in-numeral n) refl
integer_in-integer (negsuc n) =
    let more : (n + 1 == 0) ≡ false = grind (arith, nat_tests) in
    let same : n + 1 - 1 ≡ n = omega arith in
    rw (numeral_in-numeral (n + 1), more, same) refl

-- a sign and a numeral
signed-back : (rest : List ℕ) (n : ℕ) (d : ℤ) → rest ≡ numeral n → negative n ≡ Some d → 45 ∷ rest ≡ integer d
unfolding integer
signed-back rest n d written is =
    let same : n ≡ n - 1 + 1 = grind (arith, nat_tests) in
    let value : negsuc (n - 1) ≡ d = grind (arith, nat_tests) in
    ap (λ (l : List ℕ). 45 ∷ l) (written ∙ ap numeral same) ∙ ap integer value

-- a text that begins with a sign
begins-signed : (text : List ℕ) → (slice_index text 0 == 45) ≡ true → text ≡ 45 ∷ drop 1 text
begins-signed [] sign = absurd cc
begins-signed (b ∷ bs) sign = let same : b ≡ 45 = grind (arith, nat_tests) in rw same refl

pub integer_in-back : (text : List ℕ) (d : ℤ) → integer_in text ≡ Some d → text ≡ integer d
unfolding integer integer_in
integer_in-back text d is = elim (cases_Bool (slice_index text 0 == 45)) [
  | inl sign ↦ option_and_then_some negative (numeral_in (drop 1 text)) d (rw sign at is) (λ n read less.
      begins-signed text sign ∙ signed-back (drop 1 text) n d (numeral_in-back (drop 1 text) n read) less)
  | inr plain ↦ (let h = option_map_some pos (numeral_in text) d (rw plain at is) in numeral_in-back text h.0 h.1 ∙ ap integer h.2)
]

-- ---- what is printed ----

-- std prints a number of at most 64 bits so
pub numeral-decimal : (n : ℕ) → n < 2 ^ 64 → decimal n ≡ numeral n
unfolding numeral digits
numeral-decimal n small = elim (cases_Bool (n == 0)) [
  | inl zero ↦ (let none : n ≡ 0 = grind (arith, nat_tests) in rw none refl)
  | inr more ↦ rw more (decimal-digits_of n (grind (arith, nat_tests)) small)
]
