-- A long line is no header and writes nothing, so that a front of it gives what the line gives.
use Rattle.std.proofs.Common.{◌≡◌, ◌∙◌, sym, ap, refl, ℕ, zero, suc, ◌+◌, ◌-◌, ◌*◌, ◌<◌, ◌≤◌, List, ◌++◌, length, take, drop, false, arith, Option, Some, None, inl, inr}
use Rattle.std.specs.Prelude.{codes, IsSome}
use Rattle.std.specs.Str.{bytes_eq}
use Rattle.std.proofs.lemmas.Bool.{cases_Bool, cases_lt}
use Rattle.std.proofs.lemmas.List.{take_all, length-take}
use Rattle.std.proofs.lemmas.Option.{option_and_then_some}
use Rattle.std.proofs.lemmas.Slice.Eq.{bytes_eq-Decides}
use Rattle.eg_input.specs.Fields.{decimal_value, number_of, truth_of, first_field, first_said}
use Rattle.eg_input.specs.Recording.{before_return, header, columns_of, numbers_of, recorded_of}
use Rattle.eg_input.specs.Answering.{answer_of}
use Rattle.eg_input.specs.declared.answered.PartnerAnswer.{PartnerAnswer}
use Rattle.eg_input.specs.declared.columns.Columns.{Columns}
use Rattle.eg_input.specs.declared.columns.Columns.TheVariants as columns
use Rattle.eg_input.proofs.AnswerLemmas.{number_of-short, said-number, answered}

-- a line of numbers has six bytes a field at most, its comma with them
numbers_of-short : (width : ℕ) (line numbers : List ℕ) → numbers_of width line ≡ Some numbers → length line + 1 ≤ 6 * width
unfolding numbers_of
numbers_of-short zero line numbers is = absurd cc
numbers_of-short (suc zero) line numbers is =
    option_and_then_some _ _ numbers is (λ (number : ℕ) n made. omega (arith, number_of-short 65535 line number n))
numbers_of-short (suc (suc more)) line numbers is =
    option_and_then_some _ _ numbers is (λ (first : ℕ × List ℕ) f is.
    option_and_then_some _ _ numbers is (λ (rest : List ℕ) r is.
    omega (arith, (said-number 65535 line first.0 first.1 f).1, numbers_of-short (suc more) first.1 rest r)))

-- so a long line of at most twelve fields writes none
numbers_of-long : (width : ℕ) (line : List ℕ) → width ≤ 12 → 72 ≤ length line → numbers_of width line ≡ None
numbers_of-long width line few long = at (numbers_of width line) refl
  where
    at : (read : Option (List ℕ)) → numbers_of width line ≡ read → read ≡ None
    at None is = refl
    at (Some numbers) is = absurd (omega (arith, numbers_of-short width line numbers is))

-- without its carriage return a line is at most one byte shorter
before_return-long : (line : List ℕ) → length line ≤ length (before_return line) + 1
unfolding before_return
before_return-long line = elim (cases_Bool (bytes_eq (drop (length line - 1) line) (codes "\r"))) [
  | inl is ↦ rw is (omega (arith, length-take (length line - 1) line))
  | inr other ↦ rw other (omega arith)
]

pub recorded_of-long : (columns : Columns) (line : List ℕ) → 80 < length line → recorded_of columns line ≡ None
unfolding recorded_of
recorded_of-long columns.WithoutBrake line long = rw (numbers_of-long 10 (before_return line) (omega arith) (omega (arith, before_return-long line))) refl
recorded_of-long columns.WithBrake line long = rw (numbers_of-long 12 (before_return line) (omega arith) (omega (arith, before_return-long line))) refl

-- a line is no other that is shorter
differs : (line other : List ℕ) → length other < length line → bytes_eq line other ≡ false
differs line other short = elim (cases_Bool (bytes_eq line other)) [
  | inl is ↦ absurd (let same : length line ≡ length other = ap length ((bytes_eq-Decides line other).0 is) in omega arith)
  | inr is ↦ is
]

pub columns_of-long : (line : List ℕ) → 80 < length line → columns_of line ≡ None
unfolding columns_of header
columns_of-long line long =
    let most = before_return-long line in
    rw (differs (before_return line) header (omega arith), differs (before_return line) (header ++ codes ",brake1,brake2") (omega arith)) refl

-- a front of more bytes than any good line has gives what the line gives
seen : {X : Type 0} (most : ℕ) (read : List ℕ → Option X) → ((line : List ℕ) → most < length line → read line ≡ None) → (line : List ℕ) (n : ℕ) → most < n → read (take n line) ≡ read line
seen most read never line n many = elim (cases_lt n (length line)) [
  | inl longer ↦ never (take n line) (omega (arith, length-take n line)) ∙ sym (never line (omega arith))
  | inr all ↦ ap read (take_all n line all)
]

pub recorded_of-seen : (columns : Columns) (line : List ℕ) (n : ℕ) → 80 < n → recorded_of columns (take n line) ≡ recorded_of columns line
recorded_of-seen columns = seen 80 (recorded_of columns) (recorded_of-long columns)

pub columns_of-seen : (line : List ℕ) (n : ℕ) → 80 < n → columns_of (take n line) ≡ columns_of line
columns_of-seen = seen 80 columns_of columns_of-long

-- the longest header has as many bytes as are read
pub longest_header : (line : List ℕ) × (length line ≡ 80) × (columns_of line ≡ Some columns.WithBrake)
unfolding before_return header columns_of
longest_header = (header ++ codes ",brake1,brake2\r", refl, refl)

-- ---- answers ----

pub answer_of-long : (line : List ℕ) → 46 < length line → answer_of line ≡ None
answer_of-long line long = at (answer_of line) refl
  where
    at : (read : Option PartnerAnswer) → answer_of line ≡ read → read ≡ None
    at None is = refl
    at (Some answer) is = absurd (omega (arith, (answered line answer is).1, before_return-long line))

pub answer_of-seen : (line : List ℕ) (n : ℕ) → 46 < n → answer_of (take n line) ≡ answer_of line
answer_of-seen = seen 46 answer_of answer_of-long

-- the longest answer has as many bytes as are read
pub longest_answer : (line : List ℕ) × (length line ≡ 46) × IsSome (answer_of line)
unfolding decimal_value number_of truth_of first_field first_said before_return answer_of
longest_answer = (codes "01000,08000,10000,0,0,01000,65535,65535,65535\r", refl, refl)
