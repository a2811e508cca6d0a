-- The texts of `bound` and `limits` (F40) and of `answers` (F1).
use Rattle.std.specs.Prelude.{ℕ, ◌+◌, List, [], ◌∷◌, ◌++◌, codes, decimal, Option, Some, None}
use Rattle.eg_answer.specs.declared.questions.Question.{Question}
use Rattle.eg_desk.specs.declared.limit.Limits.{Limits}

unfoldable pub number_or_none : Option ℕ → List ℕ
number_or_none None = codes "none"
number_or_none (Some n) = decimal n

-- F1, F40: the first two lines of `limits`
abbrev pub bound_text : Limits → List ℕ
bound_text limits =
    (codes "reaction " ++ decimal limits.reaction ++ codes "\n")
    ++ (codes "lapse " ++ number_or_none limits.lapse ++ codes "\n")

-- the first six lines of `limits`
abbrev pub counts_text : Limits → List ℕ
counts_text limits =
    bound_text limits
    ++ (codes "verdicts " ++ decimal limits.verdicts ++ codes "\n")
    ++ (codes "excess " ++ decimal limits.excess ++ codes "\n")
    ++ (codes "test " ++ decimal limits.test ++ codes "\n")
    ++ (codes "spacing " ++ number_or_none limits.spacing ++ codes "\n")

-- F40
abbrev pub limits_text : Limits → List ℕ
limits_text limits =
    counts_text limits
    ++ (codes "stretch " ++ decimal limits.stretch ++ codes "\n")
    ++ (codes "peak " ++ decimal limits.peak ++ codes "\n")
    ++ (codes "ramp " ++ number_or_none limits.ramp ++ codes "\n")
    ++ (codes "missed " ++ number_or_none limits.missed ++ codes "\n")

-- F1, the line of question n
abbrev pub answer_line : (n answer : ℕ) → List ℕ
answer_line n answer = codes "answer " ++ decimal n ++ codes ": " ++ decimal answer ++ codes "\n"

-- the first of these questions has number n
unfoldable pub answer_lines : ℕ → List Question → List ℕ
answer_lines n [] = []
answer_lines n (question ∷ questions) = answer_line n question.answer ++ answer_lines (n + 1) questions

abbrev pub answers_text : List Question → List ℕ
answers_text questions = answer_lines 0 questions
