-- Facts on each question, one after another.
use Rattle.std.proofs.Common.{◌≡◌, subst, inl, inr, ℕ, ◌+◌, ◌<◌, List, All, length, arith}
use Rattle.std.proofs.lemmas.Bool.{cases_lt}
use Rattle.std.proofs.lemmas.List.{get_or_default}
use Rattle.eg_answer.specs.declared.questions.Question.{Question}
use Rattle.eg_answer.specs.Questions.{question_at, no_question}

-- one place more
pub one_more : (P : ℕ → Type 0) (i : ℕ) → ((k : ℕ) → k < i → P k) → P i → (k : ℕ) → k < i + 1 → P k
one_more P i before here k within = elim (cases_lt k i) [
  | inl low ↦ before k low
  | inr from ↦ let same : i ≡ k = omega (arith, within, from) in subst P same here
]

-- what holds of the question at each place holds of all of them
pub at_each : (P : Question → Type 0) (questions : List Question) → ((k : ℕ) → k < length questions → P (question_at questions k)) → All P questions
at_each P questions each k d within = subst P (get_or_default questions k no_question d within) (each k within)
