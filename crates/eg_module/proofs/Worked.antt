-- Questions, verdicts and their debouncing at the reference times, computed from the definitions.
use Rattle.std.proofs.Common.{◌≡◌, ℕ, Bool, true, false, List, [], ◌∷◌, map, refl}
use Rattle.eg_num.specs.Windows.{weight, windows, is_reached, is_confirmed}
use Rattle.eg_answer.specs.Answers.{answer_number}
use Rattle.eg_answer.specs.Questions.{no_question}
use Rattle.eg_answer.specs.Times.{TimeParts}
use Rattle.eg_answer.specs.Periods.{HeardAnswer, period_of, place_of, is_last_tick, is_send_tick, is_in_window, asked, expected_number, marked, verdict_of, verdict_over, is_wrong}
use Rattle.eg_answer.specs.declared.questions.Question.{Question}
use Rattle.eg_answer.specs.declared.marks.Verdict.{Verdict}
use Rattle.eg_answer.specs.declared.marks.Verdict.TheVariants.{Right, Wrong}

-- every definition that these rows need
unfoldable monitoring : ℕ
unfolding weight windows is_reached is_confirmed answer_number period_of place_of is_last_tick is_send_tick is_in_window asked
    expected_number marked verdict_of verdict_over is_wrong
monitoring = 0

abbrev times : TimeParts
times = record { period = 10; first = 4; last = 7; send = 5; weights = record { up = 3; down = 1; limit = 9 } }

-- the number that is expected for a question with the answer 8842
abbrev expected : ℕ
unfolding monitoring
expected = answer_number 8842

abbrev heard : ℕ → ℕ → HeardAnswer
heard tick number = record { tick = tick; number = number }

abbrev verdict_on : List HeardAnswer → Verdict
unfolding monitoring
verdict_on answers = verdict_over times expected answers

abbrev is_confirmed_after : List Verdict → Bool
unfolding monitoring
is_confirmed_after verdicts = is_confirmed times.weights (map is_wrong verdicts)

-- the question of a period, of four and of two
questions-four : map (asked times 4) (0 ∷ 9 ∷ 10 ∷ 25 ∷ 39 ∷ 40 ∷ []) ≡ 0 ∷ 0 ∷ 1 ∷ 2 ∷ 3 ∷ 0 ∷ []
unfolding monitoring
questions-four = refl

questions-two : map (asked times 2) (9 ∷ 10 ∷ 25 ∷ []) ≡ 0 ∷ 1 ∷ 0 ∷ []
unfolding monitoring
questions-two = refl

-- the numbers that are expected, for four questions with these answers
abbrev questions : List Question
questions = map (λ answer. record no_question { answer = answer }) (8842 ∷ 55753 ∷ 44807 ∷ 19505 ∷ [])

expected_numbers : map (expected_number times questions) (0 ∷ 25 ∷ 39 ∷ 40 ∷ []) ≡ 16720522 ∷ 16756487 ∷ 16731185 ∷ 16720522 ∷ []
unfolding monitoring
expected_numbers = refl

-- the last ticks of periods, the send ticks, and the window
last_ticks : map (is_last_tick times) (8 ∷ 9 ∷ 10 ∷ 19 ∷ []) ≡ false ∷ true ∷ false ∷ true ∷ []
unfolding monitoring
last_ticks = refl

send_ticks : map (is_send_tick times) (4 ∷ 5 ∷ 6 ∷ 15 ∷ []) ≡ false ∷ true ∷ false ∷ true ∷ []
unfolding monitoring
send_ticks = refl

window : map (is_in_window times) (3 ∷ 4 ∷ 7 ∷ 8 ∷ 14 ∷ []) ≡ false ∷ true ∷ true ∷ false ∷ true ∷ []
unfolding monitoring
window = refl

-- one answer of the right number: in the window, before it, at its ends, after it
one_answer : map (λ tick. verdict_on (heard tick 16720522 ∷ [])) (5 ∷ 3 ∷ 4 ∷ 7 ∷ 8 ∷ 15 ∷ []) ≡ Right ∷ Wrong ∷ Right ∷ Right ∷ Wrong ∷ Right ∷ []
unfolding monitoring
one_answer = refl

-- no answer, two right ones, one of a wrong number, and one whose token was lost
others : map verdict_on ([] ∷ (heard 6 16720522 ∷ heard 5 16720522 ∷ []) ∷ (heard 5 16720523 ∷ []) ∷ (heard 5 8842 ∷ []) ∷ []) ≡ Wrong ∷ Wrong ∷ Wrong ∷ Wrong ∷ []
unfolding monitoring
others = refl

-- The verdicts stand newest first here. Three wrong ones in a row confirm, also after a right one,
three_wrong : map is_confirmed_after ((Wrong ∷ Wrong ∷ []) ∷ (Wrong ∷ Wrong ∷ Wrong ∷ []) ∷ (Wrong ∷ Wrong ∷ Wrong ∷ Right ∷ []) ∷ []) ≡ false ∷ true ∷ true ∷ []
unfolding monitoring
three_wrong = refl

-- a right one in between puts it off, and one afterwards changes nothing
right_between : map is_confirmed_after ((Right ∷ Wrong ∷ Wrong ∷ []) ∷ (Wrong ∷ Right ∷ Wrong ∷ Wrong ∷ []) ∷ (Wrong ∷ Wrong ∷ Right ∷ Wrong ∷ Wrong ∷ [])
    ∷ (Right ∷ Wrong ∷ Wrong ∷ Wrong ∷ []) ∷ []) ≡ false ∷ false ∷ true ∷ true ∷ []
unfolding monitoring
right_between = refl
