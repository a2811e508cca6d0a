-- The right answers to the questions of a calibration file (C78), and what becomes of the file with these put
-- in.
use Rattle.std.specs.Prelude.{◌≡◌, ◌≢◌, ℕ, pos, List, ◌∷◌, map, codes, Option, Some, None, Result, Ok, Err, if◌then◌else◌}
use Rattle.toml.specs.Data.{Data, integer, array, table, Items, item, Members, no_members, member, same_key}
use Rattle.eg_toml.specs.Refusals.{unless}
use Rattle.eg_answer.specs.Answers.{expected_of}
use Rattle.eg_answer.specs.declared.rules.Rules.{Rules}
use Rattle.eg_answer.specs.declared.questions.Question.{Question as QuestionParts}
use Rattle.eg_values.specs.Calibration.{CalibrationParts}
use Rattle.eg_cal.specs.declared.key.CalFault.{CalFault}
use Rattle.eg_cal.specs.declared.key.CalFault.TheVariants as fault
use Rattle.eg_cal.specs.Calibration.{unanswered_refusal_of, parts_of, calibration_of}

-- ---- what they are

abbrev pub answered : Rules → QuestionParts → QuestionParts
answered rules question = record question { answer = expected_of rules question.row }

abbrev pub answered_in : CalibrationParts → List QuestionParts
answered_in p = map (answered p.rules) p.questions

-- C78: the questions with their right answers, or the first refusal of F21 but Answer
abbrev pub answers_of : Option Members → Result (List QuestionParts) CalFault
answers_of None = Err fault.Text
answers_of (Some ms) = unless (unanswered_refusal_of ms) (answered_in (parts_of ms))

-- ---- the file with answers put in

-- what stands under this name is changed
abbrev pub with_member : List ℕ → (Data → Data) → Members → Members
with_member name change no_members = no_members
with_member name change (member k d ms) =
    member k (if same_key name k then change d else d) (with_member name change ms)

abbrev pub with_answer : ℕ → Data → Data
with_answer answer (table ms) = table (with_member (codes "answer") (λ d. integer (pos answer)) ms)
with_answer answer d = d

abbrev pub items_with : List ℕ → Items → Items
items_with (answer ∷ answers) (item d ds) = item (with_answer answer d) (items_with answers ds)
items_with _ ds = ds

abbrev pub questions_with : List ℕ → Data → Data
questions_with answers (array ds) = array (items_with answers ds)
questions_with answers d = d

-- C78: the file with these answers, and all else as it stood
abbrev pub with_answers : List ℕ → Members → Members
with_answers answers ms = with_member (codes "question") (questions_with answers) ms

-- C78: a file that is refused for no more than wrong answers is accepted once the right answers are put in,
-- and its calibration is that of the file but for the answers.
abbrev pub AnswersLaw : Type 0
AnswersLaw = (ms : Members) (asked : List QuestionParts) → answers_of (Some ms) ≡ Ok asked →
    calibration_of (Some (with_answers (map (λ question. question.answer) asked) ms))
    ≡ Ok (record (parts_of ms) { questions = asked })

-- F21: Answer is never a refusal of `answers`
abbrev pub NoAnswerLaw : Type 0
NoAnswerLaw = (document : Option Members) (n : ℕ) → answers_of document ≢ Err (fault.Answer n)
