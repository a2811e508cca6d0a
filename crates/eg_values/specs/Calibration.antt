-- A calibration and when it is accepted (C74).
use Rattle.std.specs.Prelude.{◌≡◌, ℕ, ◌≤◌, ◌<◌, ◌^◌, Bool, List, length, All}
use Rattle.eg_num.specs.Interpolation.{IsGrid, IsCurve}
use Rattle.eg_num.specs.Windows.{AreWeights}
use Rattle.eg_torque.specs.Permit.{DoesNotFall}
use Rattle.eg_plant.specs.PlantParts.{PlantParts, ArePlantParts}
use Rattle.eg_answer.specs.Times.{TimeParts, AreTimes}
use Rattle.eg_answer.specs.Answers.{expected_of}
use Rattle.eg_answer.specs.Questions.{question_at}
use Rattle.eg_answer.specs.declared.rules.Rules.{Rules}
use Rattle.eg_answer.specs.declared.questions.Question.{Question}
use Rattle.eg_values.specs.declared.calibration.Apart.{Apart}
use Rattle.eg_values.specs.declared.calibration.Apart.TheVariants.{Torque, Few, Answer}

pub record CalibrationParts : Type 0 where
  pub rules : Rules
  pub plant : PlantParts
  pub times : TimeParts
  pub questions : List Question
  pub brake : Bool

abbrev pub made_of : Rules → PlantParts → TimeParts → List Question → Bool → CalibrationParts
made_of rules plant times questions brake =
    record { rules = rules; plant = plant; times = times; questions = questions; brake = brake }

-- the question's answer is right (C31)
abbrev pub HasRightAnswer : Rules → Question → Type 0
HasRightAnswer rules question = question.answer ≡ expected_of rules question.row

abbrev pub AreAnswered : Rules → List Question → Type 0
AreAnswered rules questions = All (HasRightAnswer rules) questions

-- question i, from 0 on, is the first whose answer isn't right
pub record IsFirstWrong (rules : Rules) (questions : List Question) (i : ℕ) : Type 0 where
  pub within : i < length questions
  pub wrong : ¬ HasRightAnswer rules (question_at questions i)
  pub first : (k : ℕ) → k < i → HasRightAnswer rules (question_at questions k)

-- the parts go together: both have one `kt`, there are two questions or more, and each has the right answer
pub record GoTogether (c : CalibrationParts) : Type 0 where
  pub one_kt : c.rules.kt ≡ c.plant.kt
  pub two_questions : 2 ≤ length c.questions
  pub answered : AreAnswered c.rules c.questions

-- a reason why the parts don't go together, and no reason before it in `Apart` applies
abbrev pub IsApart : CalibrationParts → Apart → Type 0
IsApart c Torque = ¬ (c.rules.kt ≡ c.plant.kt)
IsApart c Few = (c.rules.kt ≡ c.plant.kt) × (length c.questions < 2)
IsApart c (Answer i) =
    (c.rules.kt ≡ c.plant.kt) × (2 ≤ length c.questions) × IsFirstWrong c.rules c.questions i

-- the seeds of the questions, and the values of the permit table, are words of 16 bits
pub record HasWords (c : CalibrationParts) : Type 0 where
  pub seeds : All (λ question. question.row.seed < 2 ^ 16) c.questions
  pub values : All (λ value. value < 2 ^ 16) c.rules.permit.values

-- C74. The laws of a run ask no more of a calibration than this.
pub record IsAccepted (c : CalibrationParts) : Type 0 where
  pub grid : IsGrid c.rules.permit
  pub permit : DoesNotFall c.rules.permit
  pub pair : AreWeights c.rules.pair
  pub torque : AreWeights c.rules.torque
  pub plant : ArePlantParts c.plant
  pub charge : IsCurve c.plant.charge
  pub times : AreTimes c.times
  pub answers : AreWeights c.times.weights
  pub at_most_64 : length c.questions ≤ 64
  pub together : GoTogether c
  pub words : HasWords c
