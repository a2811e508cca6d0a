-- Periods, questions and verdicts by ticks (C30, C33, C34). Ticks are counted from the begin of the first
-- period, and lists stand newest first.
use Rattle.std.specs.Prelude.{ℕ, ◌+◌, ◌/◌, ◌%◌, ◌==◌, ◌≡◌, ◌≤◌, nat_le, Bool, true, false, ◌&&◌, List, [], ◌∷◌, length, map, Option, Some, None, if◌then◌else◌}
use Rattle.eg_answer.specs.Answers.{answer_number}
use Rattle.eg_answer.specs.Questions.{question_at}
use Rattle.eg_answer.specs.Times.{TimeParts}
use Rattle.eg_answer.specs.declared.questions.Question.{Question}
use Rattle.eg_answer.specs.declared.marks.Verdict.{Verdict}
use Rattle.eg_answer.specs.declared.marks.Verdict.TheVariants.{Right, Wrong}

-- the number of the period in which a tick lies, from 0 on
unfoldable pub period_of : TimeParts → ℕ → ℕ
period_of times tick = tick / times.period

-- its place in its period, from 0 on
unfoldable pub place_of : TimeParts → ℕ → ℕ
place_of times tick = tick % times.period

unfoldable pub is_last_tick : TimeParts → ℕ → Bool
is_last_tick times tick = place_of times tick + 1 == times.period

-- whether it is a send tick, if no fault moves answers
unfoldable pub is_send_tick : TimeParts → ℕ → Bool
is_send_tick times tick = place_of times tick == times.send

-- whether an answer at this tick comes in the window
unfoldable pub is_in_window : TimeParts → ℕ → Bool
is_in_window times tick = nat_le times.first (place_of times tick) && nat_le (place_of times tick) times.last

-- the number of the question that is asked at a tick, of `count` questions
unfoldable pub asked : TimeParts → ℕ → ℕ → ℕ
asked times count tick = period_of times tick % count

-- the number that is expected to be heard in the period of a tick
unfoldable pub expected_number : TimeParts → List Question → ℕ → ℕ
expected_number times questions tick =
    answer_number (question_at questions (asked times (length questions) tick)).answer

-- an answer: the tick at which it came, and whether it was good
pub record MarkedAnswer : Type 0 where
  pub tick : ℕ
  pub good : Bool

-- an answer as it is heard: the tick at which it came, and its number
pub record HeardAnswer : Type 0 where
  pub tick : ℕ
  pub number : ℕ

-- a heard answer is good where it is the expected number
unfoldable pub marked : ℕ → HeardAnswer → MarkedAnswer
marked expected heard = record { tick = heard.tick; good = heard.number == expected }

-- the verdict over the answers of a period (C34)
unfoldable pub verdict_of : TimeParts → List MarkedAnswer → Verdict
verdict_of times [] = Wrong
verdict_of times (answer ∷ []) = if is_in_window times answer.tick && answer.good then Right else Wrong
verdict_of times (answer ∷ other ∷ others) = Wrong

-- the same over the answers that were heard, if this number is expected
unfoldable pub verdict_over : TimeParts → ℕ → List HeardAnswer → Verdict
verdict_over times expected heard = verdict_of times (map (marked expected) heard)

-- a right verdict in words
pub record IsAnswered (times : TimeParts) (expected : ℕ) (heard : List HeardAnswer) : Type 0 where
  pub answer : HeardAnswer
  pub alone : heard ≡ answer ∷ []
  pub from_first : times.first ≤ answer.tick % times.period
  pub to_last : answer.tick % times.period ≤ times.last
  pub expected_one : answer.number ≡ expected

-- the verdicts so far, with that of this tick if it has one
unfoldable pub with_verdict : Option Verdict → List Verdict → List Verdict
with_verdict None before = before
with_verdict (Some verdict) before = verdict ∷ before

-- whether a verdict is debounced as a bad feed
unfoldable pub is_wrong : Verdict → Bool
is_wrong Right = false
is_wrong Wrong = true
