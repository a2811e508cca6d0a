-- What a calibration file says under its keys (F20), or its first refusal (F21).
use Rattle.std.specs.Prelude.{ℕ, zero, suc, ◌-◌, ◌==◌, ◌&&◌, Bool, not, nat_le, nat_lt, is_some, [], ◌∷◌, List, length, Option, Some, None, option_map, if◌then◌else◌, Result, Err}
use Rattle.toml.specs.Data.{Members}
use Rattle.eg_num.specs.Windows.{WeightParts}
use Rattle.eg_num.specs.Interpolation.{Grid, cell}
use Rattle.eg_torque.specs.declared.ramp.TheConstants.{NO_RAMP}
use Rattle.eg_plant.specs.PlantParts.{PlantParts}
use Rattle.eg_answer.specs.Times.{TimeParts}
use Rattle.eg_answer.specs.Answers.{expected_of}
use Rattle.eg_answer.specs.Questions.{question_at}
use Rattle.eg_answer.specs.declared.rules.Rules.{Rules}
use Rattle.eg_answer.specs.declared.questions.Question.{Question as QuestionParts}
use Rattle.eg_values.specs.Calibration.{CalibrationParts}
use Rattle.eg_cal.specs.declared.key.CalKey.{CalKey}
use Rattle.eg_cal.specs.declared.key.CalKey.TheVariants.{PermitPedal, PermitSpeed, PermitTable, PermitThreshold, PermitBrake, PermitFall, TorqueKt, TorqueUp, TorqueDown, TorqueLimit, PairsPedal, PairsPlate, PairsLoad, PairsSpeed, PairsUp, PairsDown, PairsLimit, PlantSlew, PlantFill, PlantAngle, PlantCharge, AnswersPeriod, AnswersFirst, AnswersLast, AnswersSend, AnswersUp, AnswersDown, AnswersLimit, Question, Unknown}
use Rattle.eg_cal.specs.declared.key.CalFault.{CalFault}
use Rattle.eg_cal.specs.declared.key.CalFault.TheVariants as fault
use Rattle.eg_cal.specs.Keys.{has_brake, has_fall, all_keys}
use Rattle.eg_toml.specs.Refusals.{or_else, unless}
use Rattle.eg_cal.specs.Contents.{version_of, number_of, truth_of, points_of, values_of, questions_of}
use Rattle.eg_cal.specs.Checks.{keys_fault}
use Rattle.eg_cal.specs.Names.{is_all_known}

-- ---- the values under the keys

abbrev pub weights_of : Members → CalKey → CalKey → CalKey → WeightParts
weights_of ms up down limit = record {
  up = number_of ms up;
  down = number_of ms down;
  limit = number_of ms limit;
}

abbrev pub permit_of : Members → Grid
permit_of ms = record {
  rows = points_of ms PermitPedal;
  columns = points_of ms PermitSpeed;
  values = values_of ms PermitTable;
}

abbrev pub torque_weights_of : Members → WeightParts
torque_weights_of ms = weights_of ms TorqueUp TorqueDown TorqueLimit

-- in this order
abbrev pub tolerances_of : Members → List ℕ
tolerances_of ms =
    number_of ms PairsPedal ∷ number_of ms PairsPlate ∷ number_of ms PairsLoad ∷ number_of ms PairsSpeed ∷ []

abbrev pub pair_weights_of : Members → WeightParts
pair_weights_of ms = weights_of ms PairsUp PairsDown PairsLimit

-- `kt` is the torque of a load of 1000
abbrev pub plant_of : Members → ℕ → PlantParts
plant_of ms kt = record {
  slew = number_of ms PlantSlew;
  fill = number_of ms PlantFill;
  charge = record { axis = points_of ms PlantAngle; values = values_of ms PlantCharge };
  kt = kt;
}

abbrev pub times_of : Members → TimeParts
times_of ms = record {
  period = number_of ms AnswersPeriod;
  first = number_of ms AnswersFirst;
  last = number_of ms AnswersLast;
  send = number_of ms AnswersSend;
  weights = weights_of ms AnswersUp AnswersDown AnswersLimit;
}

-- F20: before version 3 there is no ramp
abbrev pub fall_of : Members → ℕ
fall_of ms = if has_fall (version_of ms) then number_of ms PermitFall else NO_RAMP

abbrev pub rules_of : Members → Rules
rules_of ms = record {
  permit = permit_of ms;
  fall = fall_of ms;
  kt = number_of ms TorqueKt;
  threshold = number_of ms PermitThreshold;
  tolerances = tolerances_of ms;
  pair = pair_weights_of ms;
  torque = torque_weights_of ms;
}

-- F20: in version 1 the brake doesn't count
abbrev pub brake_of : Members → Bool
brake_of ms = has_brake (version_of ms) && truth_of ms PermitBrake

-- C74: plant and rules have the same `kt`
abbrev pub parts_of : Members → CalibrationParts
parts_of ms = record {
  rules = rules_of ms;
  plant = plant_of ms (number_of ms TorqueKt);
  times = times_of ms;
  questions = questions_of ms Question;
  brake = brake_of ms;
}

-- ---- what they are refused for together

-- of this many numbers from `from` on, the first that passes
unfoldable pub first_from : (ℕ → Bool) → ℕ → ℕ → Option ℕ
first_from passes zero from = None
first_from passes (suc more) from = if passes from then Some from else first_from passes more (suc from)

-- C4: row i of a table has a value below that of the row before it
abbrev pub falls : Grid → ℕ → Bool
falls g i = is_some (first_from (λ j. nat_lt (cell g i j) (cell g (i - 1) j)) (length g.columns) 0)

abbrev pub falling_row : Grid → Option ℕ
falling_row g = first_from (falls g) (length g.rows - 1) 1

-- C33
abbrev pub is_window : TimeParts → Bool
is_window t = nat_le t.first t.send && nat_le t.send t.last && nat_lt t.last t.period

-- C31: question i has another answer than the fold of its row
abbrev pub is_wrong : Rules → List QuestionParts → ℕ → Bool
is_wrong rules asked i = not ((question_at asked i).answer == expected_of rules (question_at asked i).row)

abbrev pub wrong_answer : Rules → List QuestionParts → Option ℕ
wrong_answer rules asked = first_from (is_wrong rules asked) (length asked) 0

-- F21, Rising
abbrev pub rising_fault : Grid → Option CalFault
rising_fault g = option_map fault.Rising (falling_row g)

-- F21, Window
abbrev pub window_fault : TimeParts → Option CalFault
window_fault t = if is_window t then None else Some fault.Window

-- F21, Rising and Window
abbrev pub parts_fault : CalibrationParts → Option CalFault
parts_fault p = or_else (rising_fault p.rules.permit) (window_fault p.times)

-- F21, Answer
abbrev pub answer_fault : CalibrationParts → Option CalFault
answer_fault p = option_map fault.Answer (wrong_answer p.rules p.questions)

-- ---- the file

-- F21, Key unknown
abbrev pub unknown_fault : Members → Option CalFault
unknown_fault ms = if is_all_known (version_of ms) ms then None else Some (fault.Key Unknown)

-- F21 but Answer
abbrev pub unanswered_refusal_of : Members → Option CalFault
unanswered_refusal_of ms =
    or_else (keys_fault ms (all_keys (version_of ms)))
    (or_else (unknown_fault ms) (parts_fault (parts_of ms)))

-- F21
abbrev pub refusal_of : Members → Option CalFault
refusal_of ms = or_else (unanswered_refusal_of ms) (answer_fault (parts_of ms))

-- F20, F21
abbrev pub calibration_of : Option Members → Result CalibrationParts CalFault
calibration_of None = Err fault.Text
calibration_of (Some ms) = unless (refusal_of ms) (parts_of ms)
