-- The lines of the answers, one after another.
use Rattle.std.proofs.Common.{◌≡◌, ◌∙◌, ◌+◌, ◌++◌, ◌<◌, ◌≤◌, List, ℕ, drop, length, sym, ap, append_assoc}
use Rattle.std.proofs.lemmas.List.{drop_more, drop_all, append-nil}
use Rattle.eg_answer.specs.Questions.{no_question, question_at}
use Rattle.eg_answer.specs.declared.questions.Question.{Question}
use Rattle.eg_desk.specs.Texts.{answer_line, answer_lines, answers_text}

-- the lines from question i on are its own and those behind it
lines-next : (asked : List Question) (i : ℕ) → i < length asked
    → answer_lines i (drop i asked) ≡ answer_line i (question_at asked i).answer ++ answer_lines (i + 1) (drop (i + 1) asked)
unfolding answer_lines
lines-next asked i below = ap (answer_lines i) (drop_more asked i no_question below)

-- one line more is written
pub written-more : (asked : List Question) (i answer : ℕ) (before after : List ℕ) → i < length asked → answer ≡ (question_at asked i).answer
    → after ≡ before ++ answer_line i answer → before ++ answer_lines i (drop i asked) ≡ answers_text asked
    → after ++ answer_lines (i + 1) (drop (i + 1) asked) ≡ answers_text asked
written-more asked i answer before after below is more whole =
    let rest = answer_lines (i + 1) (drop (i + 1) asked) in
    ap (λ (l : List ℕ). l ++ rest) more ∙ append_assoc before (answer_line i answer) rest
    ∙ ap (λ (n : ℕ). before ++ (answer_line i n ++ rest)) is ∙ ap (λ (l : List ℕ). before ++ l) (sym (lines-next asked i below)) ∙ whole

-- all are written
pub written-all : (asked : List Question) (i : ℕ) (text : List ℕ) → length asked ≤ i → text ++ answer_lines i (drop i asked) ≡ answers_text asked
    → text ≡ answers_text asked
unfolding answer_lines
written-all asked i text end whole = sym (append-nil text) ∙ ap (λ (l : List ℕ). text ++ l) (sym (ap (answer_lines i) (drop_all i asked end))) ∙ whole
