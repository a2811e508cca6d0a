-- What the values of a calibration are refused for together.
use Rattle.std.proofs.Common.{◌≡◌, inl, inr, ℕ, zero, suc, ◌+◌, ◌-◌, ◌<◌, ◌≤◌, ◌==◌, nat_lt, not, is_some, Bool, true, false, length, List, Option, Some, None, if◌then◌else◌, refl, sym, ap, ◌∙◌, subst, arith}
use Rattle.std.proofs.lemmas.List.Elements.{All-from_get_or, All-get_or}
use Rattle.std.proofs.lemmas.Bool.Decides.{nat_tests}
use Rattle.std.proofs.lemmas.Bool.{cases_lt, true≢false}
use Rattle.eg_num.specs.Interpolation.{Grid, cell}
use Rattle.eg_torque.specs.Permit.{FallsAt, IsFirstFall, DoesNotFall}
use Rattle.eg_answer.specs.Questions.{no_question}
use Rattle.eg_answer.specs.declared.rules.Rules.{Rules}
use Rattle.eg_answer.specs.declared.questions.Question.{Question}
use Rattle.eg_values.specs.declared.calibration.Apart.{Apart}
use Rattle.eg_values.specs.declared.calibration.Apart.TheVariants.{Answer}
use Rattle.eg_values.specs.Calibration.{CalibrationParts, HasRightAnswer, AreAnswered, IsFirstWrong, IsApart}
use Rattle.eg_toml.proofs.RisingLemmas.{lt-true, true-lt}
use Rattle.eg_cal.proofs.AxisLemmas.{not-true}
use Rattle.eg_cal.specs.Calibration.{first_from, falls, falling_row, is_wrong, wrong_answer}

-- ---- a search for the first number that passes

-- where no number passes there is no first
pub first_from-none : (passes : ℕ → Bool) (n i : ℕ) → ((k : ℕ) → i ≤ k → k < i + n → passes k ≡ false) → first_from passes n i ≡ None
unfolding first_from
first_from-none passes zero i none = refl
first_from-none passes (suc n) i none = rw (none i (omega arith) (omega arith)) (first_from-none passes n (suc i) (λ k from to. none k (omega arith) (omega arith)))

-- the first is the number that passes where none before it does
pub first_from-some : (passes : ℕ → Bool) (n i j : ℕ) → i ≤ j → j < i + n → passes j ≡ true → ((k : ℕ) → i ≤ k → k < j → passes k ≡ false) → first_from passes n i ≡ Some j
unfolding first_from
first_from-some passes zero i j from to here before = absurd (omega arith)
first_from-some passes (suc n) i j from to here before = elim (cases_lt i j) [
  | inl later ↦ rw (before i (omega arith) later) (first_from-some passes n (suc i) j (omega arith) (omega arith) here (λ k after below. before k (omega arith) below))
  | inr past ↦ (let same : i ≡ j = omega arith in rw (ap passes same ∙ here) (ap Some same))
]

if-none : (b : Bool) (i : ℕ) (o : Option ℕ) → (if b then Some i else o) ≡ None → (b ≡ false) × (o ≡ None)
if-none true i o e = absurd (cc)
if-none false i o e = (refl, e)

-- where there is no first, no number passes
pub none-first_from : (passes : ℕ → Bool) (n i : ℕ) → first_from passes n i ≡ None → (k : ℕ) → i ≤ k → k < i + n → passes k ≡ false
unfolding first_from
none-first_from passes zero i e k from to = absurd (omega arith)
none-first_from passes (suc n) i e k from to =
    let (fails, rest) = if-none (passes i) i (first_from passes n (suc i)) e in
    elim (cases_lt i k) [
      | inl later ↦ none-first_from passes n (suc i) rest k (omega arith) (omega arith)
      | inr past ↦ (let same : i ≡ k = omega arith in ap passes (sym same) ∙ fails)
    ]

-- ---- rows that fall

is_some-true : (o : Option ℕ) → (o ≡ None → ⊥) → is_some o ≡ true
is_some-true None h = absurd (h refl)
is_some-true (Some i) h = refl

falls-true : (g : Grid) (i : ℕ) → FallsAt g i → falls g i ≡ true
falls-true g i at =
    let passes = λ (j : ℕ). nat_lt (cell g i j) (cell g (i - 1) j) in
    is_some-true (first_from passes (length g.columns) 0) (λ none.
    let fails = none-first_from passes (length g.columns) 0 none at.column (omega arith) (let within = at.within in omega arith) in
    true≢false (sym (lt-true _ _ at.below) ∙ fails))

falls-false : (g : Grid) (i : ℕ) → 1 ≤ i → i < length g.rows → ¬ FallsAt g i → falls g i ≡ false
falls-false g i later row not_here =
    ap is_some (first_from-none (λ j. nat_lt (cell g i j) (cell g (i - 1) j)) (length g.columns) 0 (λ j from to.
    not-true _ (λ less. not_here (record { later = later; row = row; column = j; within = omega arith; below = true-lt _ _ less }))))

-- the first row that falls is the first by the relation
pub falling_row-some : (g : Grid) (i : ℕ) → IsFirstFall g i → falling_row g ≡ Some i
falling_row-some g i first =
    let row = first.falls.row in
    let later = first.falls.later in
    first_from-some (falls g) (length g.rows - 1) 1 i later (omega arith) (falls-true g i first.falls)
    (λ k from below. falls-false g k from (omega arith) (first.first k below))

no_fall : (g : Grid) → DoesNotFall g → (i k : ℕ) → k ≡ i + 1 → k < length g.rows → (j : ℕ) → j < length g.columns → cell g k j < cell g i j → ⊥
no_fall g rises i k e row j within below =
    let flat : cell g i j ≤ cell g (i + 1) j = rises i j (omega arith) within in
    let same : cell g k j ≡ cell g (i + 1) j = ap (λ n. cell g n j) e in
    omega arith

-- a table that doesn't fall has no such row
pub falling_row-none : (g : Grid) → DoesNotFall g → falling_row g ≡ None
falling_row-none g rises =
    first_from-none (falls g) (length g.rows - 1) 1 (λ k from to.
    falls-false g k from (omega arith) (λ at. no_fall g rises (k - 1) k (omega arith) at.row at.column at.within at.below))

-- ---- the answer window

-- ---- wrong answers

right : (a b : ℕ) → not (a == b) ≡ false → a ≡ b
right a b h = grind (arith, nat_tests)

equal : (a b : ℕ) → a ≡ b → not (a == b) ≡ false
equal a b h = grind (arith, nat_tests)

differs : (a b : ℕ) → (a ≡ b → ⊥) → not (a == b) ≡ true
differs a b h = grind (arith, nat_tests)

-- where there is no first wrong answer, all are right
pub wrong_answer-none : (rules : Rules) (asked : List Question) → wrong_answer rules asked ≡ None → AreAnswered rules asked
wrong_answer-none rules asked none =
    All-from_get_or (HasRightAnswer rules) asked no_question (λ i below.
    right _ _ (none-first_from (is_wrong rules asked) (length asked) 0 none i (omega arith) (omega arith)))

-- with all answers right there is none
pub answered-none : (rules : Rules) (asked : List Question) → AreAnswered rules asked → wrong_answer rules asked ≡ None
answered-none rules asked all =
    first_from-none (is_wrong rules asked) (length asked) 0 (λ k from to.
    equal _ _ (All-get_or (HasRightAnswer rules) asked k no_question (omega arith) all))

-- the first wrong one by the relation is the first
wrong_answer-some : (rules : Rules) (asked : List Question) (i : ℕ) → IsFirstWrong rules asked i → wrong_answer rules asked ≡ Some i
wrong_answer-some rules asked i first =
    let within = first.within in
    first_from-some (is_wrong rules asked) (length asked) 0 i (omega arith) (omega arith) (differs _ _ first.wrong) (λ k from below. equal _ _ (first.first k below))

-- parts that are kept apart by an answer have it as their first wrong one
pub apart-answer : (parts : CalibrationParts) (apart : Apart) (i : ℕ) → apart ≡ Answer i → IsApart parts apart → wrong_answer parts.rules parts.questions ≡ Some i
apart-answer parts apart i is held = wrong_answer-some _ _ i (subst (IsApart parts) is held).2
