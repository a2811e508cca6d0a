-- What the monitoring module keeps (C33, C34), and which verdicts it stands for.
use Rattle.std.specs.Prelude.{◌≡◌, ℕ, ◌≤◌, ◌<◌, List, [], ◌∷◌, All, length, map}
use Rattle.eg_num.specs.Windows.{AreWeights}
use Rattle.eg_num.specs.Counting.{StandsFor}
use Rattle.eg_answer.specs.Times.{TimeParts, AreTimes}
use Rattle.eg_answer.specs.Periods.{HeardAnswer, period_of, expected_number, is_wrong}
use Rattle.eg_answer.specs.declared.questions.Question.{Question}
use Rattle.eg_answer.specs.declared.marks.Verdict.{Verdict}

-- `verdicts` is how many verdicts were given, `heard` the answers since the last verdict, newest first, and
-- `value` that of the counter of wrong verdicts (C10)
pub record MonitorParts : Type 0 where
  pub times : TimeParts
  pub questions : List Question
  pub verdicts : ℕ
  pub heard : List HeardAnswer
  pub value : ℕ

-- each answer came later than all before it
abbrev pub AreInTurn : List HeardAnswer → Type 0
AreInTurn [] = Unit {0}
AreInTurn (answer ∷ before) = All (λ earlier. earlier.tick < answer.tick) before × AreInTurn before

-- What a monitoring module always keeps. The answers that it holds came one after another, in the one period
-- that has no verdict yet (C33).
pub record IsMonitor (m : MonitorParts) : Type 0 where
  pub times : AreTimes m.times
  pub weights : AreWeights m.times.weights
  pub two_questions : 2 ≤ length m.questions
  pub in_turn : AreInTurn m.heard
  pub one_period : All (λ answer. period_of m.times answer.tick ≡ m.verdicts) m.heard
  pub within : m.value ≤ m.times.weights.limit

-- the monitoring module has given these verdicts, newest first, and its counter stands for them
pub record HasGiven (m : MonitorParts) (verdicts : List Verdict) : Type 0 where
  pub count : m.verdicts ≡ length verdicts
  pub counter : StandsFor m.times.weights m.value (map is_wrong verdicts)

-- C32, C33: the number that is expected in the period of a tick
abbrev pub expected_at : MonitorParts → ℕ → ℕ
expected_at m tick = expected_number m.times m.questions tick
