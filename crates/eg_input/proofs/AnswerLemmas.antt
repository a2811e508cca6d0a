-- What is known of a line that answers: its numbers keep their limits, and its bytes are few.
use Rattle.std.proofs.Common.{◌≡◌, ap, subst, ℕ, ◌+◌, ◌≤◌, List, ◌∷◌, length, Bool, arith, Option, Some, None, inl, inr, length-append}
use Rattle.std.specs.Prelude.{codes}
use Rattle.std.specs.Str.{bytes_eq}
use Rattle.std.proofs.lemmas.Bool.{cases_Bool}
use Rattle.std.proofs.lemmas.Bool.Decides.{nat_tests}
use Rattle.std.proofs.lemmas.Option.{option_and_then_some}
use Rattle.std.proofs.lemmas.Slice.Eq.{bytes_eq-Decides}
use Rattle.eg_num.specs.Drive.{IsDrive}
use Rattle.eg_input.specs.Fields.{number_of, truth_of}
use Rattle.eg_input.specs.Inner.Plain.{BeginsWithField}
use Rattle.eg_input.proofs.FieldLemmas.{number_of-le}
use Rattle.eg_input.proofs.CursorLemmas.{said-begins}
use Rattle.eg_input.specs.Recording.{before_return, first_number}
use Rattle.eg_input.specs.Answering.{first_truth, answer_of}
use Rattle.eg_input.specs.declared.answered.PartnerAnswer.{PartnerAnswer}

-- a field that writes a number has five bytes at most, one that writes a truth value one
pub number_of-short : (most : ℕ) (field : List ℕ) (number : ℕ) → number_of most field ≡ Some number → length field ≤ 5
unfolding number_of
number_of-short most field number is = grind (arith, nat_tests)

truth_of-short : (field : List ℕ) (truth : Bool) → truth_of field ≡ Some truth → length field ≤ 1
unfolding truth_of
truth_of-short field truth is = elim (cases_Bool (bytes_eq field (codes "0"))) [
  | inl zero ↦ let same : length field ≡ 1 = ap length ((bytes_eq-Decides field (codes "0")).0 zero) in omega arith
  | inr other ↦ elim (cases_Bool (bytes_eq field (codes "1"))) [
    | inl one ↦ let same : length field ≡ 1 = ap length ((bytes_eq-Decides field (codes "1")).0 one) in omega arith
    | inr neither ↦ absurd (let never : None ≡ Some truth = rw (other, neither) at is in cc)
  ]
]

-- the bytes of a field, the one behind it and the rest are all
field-length : {X : Type 0} (says : List ℕ → Option X) (ending : ℕ) (text : List ℕ) (x : X) (rest : List ℕ) (b : BeginsWithField says ending text x rest)
    → length text ≡ length b.field + (length rest + 1)
field-length says ending text x rest b =
    let all = ap length b.parts in
    omega (arith, all, length-append b.field (ending ∷ rest))

-- a number before a comma keeps its limit, and is short
pub said-number : (most : ℕ) (text : List ℕ) (number : ℕ) (rest : List ℕ) → first_number most text ≡ Some (number, rest) → (number ≤ most) × (length text ≤ length rest + 6)
said-number most text number rest said =
    let b = said-begins 44 (number_of most) text number rest said in
    (number_of-le most b.field number b.written, omega (arith, field-length (number_of most) 44 text number rest b, number_of-short most b.field number b.written))

said-truth : (text : List ℕ) (truth : Bool) (rest : List ℕ) → first_truth text ≡ Some (truth, rest) → length text ≤ length rest + 2
said-truth text truth rest said =
    let b = said-begins 44 truth_of text truth rest said in
    omega (arith, field-length truth_of 44 text truth rest b, truth_of-short b.field truth b.written)

-- the drive row of an answer, and its position, keep their limits
pub record KeepsLimits (answer : PartnerAnswer) : Type 0 where
  pub drive : IsDrive answer.drive
  pub position : answer.told.position ≤ 1000

abbrev made : (pedal speed raise : ℕ) (reset brake : Bool) (position load_1 load_2 torque : ℕ) → PartnerAnswer
made pedal speed raise reset brake position load_1 load_2 torque = record {
  drive = record { pedal = pedal; speed = speed; raise = raise; reset = reset; brake = brake };
  told = record { position = position; load_1 = load_1; load_2 = load_2; torque = torque };
}

pub answered : (line : List ℕ) (answer : PartnerAnswer) → answer_of line ≡ Some answer → KeepsLimits answer × (length (before_return line) ≤ 45)
unfolding answer_of
answered line answer is =
    option_and_then_some _ _ answer is (λ (pedal : ℕ × List ℕ) p is.
    option_and_then_some _ _ answer is (λ (speed : ℕ × List ℕ) s is.
    option_and_then_some _ _ answer is (λ (raise : ℕ × List ℕ) r is.
    option_and_then_some _ _ answer is (λ (reset : Bool × List ℕ) o is.
    option_and_then_some _ _ answer is (λ (brake : Bool × List ℕ) b is.
    option_and_then_some _ _ answer is (λ (position : ℕ × List ℕ) x is.
    option_and_then_some _ _ answer is (λ (load_1 : ℕ × List ℕ) u is.
    option_and_then_some _ _ answer is (λ (load_2 : ℕ × List ℕ) v is.
    option_and_then_some _ _ answer is (λ (torque : ℕ) t (is : ◌≡◌ {A = Option PartnerAnswer} (Some (made pedal.0 speed.0 raise.0 reset.0 brake.0 position.0 load_1.0 load_2.0 torque)) (Some answer)).
    let pedal-said = said-number 1000 (before_return line) pedal.0 pedal.1 p in
    let speed-said = said-number 8000 pedal.1 speed.0 speed.1 s in
    let raise-said = said-number 10000 speed.1 raise.0 raise.1 r in
    let position-said = said-number 1000 brake.1 position.0 position.1 x in
    let same : made pedal.0 speed.0 raise.0 reset.0 brake.0 position.0 load_1.0 load_2.0 torque ≡ answer = cc in (
      subst KeepsLimits same (record { drive = (pedal-said.0, speed-said.0, raise-said.0); position = position-said.0 }),
      omega (
        arith,
        pedal-said.1,
        speed-said.1,
        raise-said.1,
        said-truth raise.1 reset.0 reset.1 o,
        said-truth reset.1 brake.0 brake.1 b,
        position-said.1,
        (said-number 65535 position.1 load_1.0 load_1.1 u).1,
        (said-number 65535 load_1.1 load_2.0 load_2.1 v).1,
        number_of-short 65535 load_2.1 torque t,
      ),
    ))))))))))

pub answer_of-limits : (line : List ℕ) (answer : PartnerAnswer) → answer_of line ≡ Some answer → KeepsLimits answer
answer_of-limits line answer is = (answered line answer is).0
