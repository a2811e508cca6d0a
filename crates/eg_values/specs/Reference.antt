-- The reference calibration (C75).
use Rattle.std.specs.Prelude.{ℕ, false, List, [], ◌∷◌}
use Rattle.eg_num.specs.Interpolation.{Grid}
use Rattle.eg_torque.specs.declared.ramp.TheConstants.{NO_RAMP}
use Rattle.eg_plant.specs.PlantParts.{PlantParts}
use Rattle.eg_answer.specs.Times.{TimeParts}
use Rattle.eg_answer.specs.declared.rules.Rules.{Rules}
use Rattle.eg_answer.specs.declared.questions.Question.{Question}
use Rattle.eg_values.specs.Calibration.{CalibrationParts}

-- in tenths of Nm, by pedal (rows) and speed (columns)
abbrev pub reference_permit : Grid
reference_permit = record {
  rows = 0 ∷ 500 ∷ 1000 ∷ [];
  columns = 800 ∷ 3000 ∷ 6000 ∷ [];
  values = 200 ∷ 100 ∷ 0 ∷ 1000 ∷ 1200 ∷ 900 ∷ 2000 ∷ 2400 ∷ 1800 ∷ [];
}

abbrev pub reference_rules : Rules
reference_rules = record {
  permit = reference_permit;
  fall = NO_RAMP;
  kt = 2500;
  threshold = 200;
  tolerances = 50 ∷ 50 ∷ 50 ∷ 50 ∷ [];
  pair = record { up = 2; down = 1; limit = 10 };
  torque = record { up = 1; down = 1; limit = 5 };
}

abbrev pub reference_plant : PlantParts
reference_plant = record {
  slew = 50;
  fill = 40;
  charge = record { axis = 0 ∷ 200 ∷ 1000 ∷ []; values = 40 ∷ 300 ∷ 1000 ∷ [] };
  kt = 2500;
}

abbrev pub reference_times : TimeParts
reference_times = record {
  period = 10;
  first = 4;
  last = 7;
  send = 5;
  weights = record { up = 3; down = 1; limit = 9 };
}

-- two readings of a pair
abbrev pub pair : ℕ → ℕ → List ℕ
pair first second = first ∷ second ∷ []

-- the four questions with their answers, in the order in which they are asked
abbrev pub question_0 : Question
question_0 = record {
  row = record {
    seed = 4660;
    readings = record {
      pedal = pair 500 500;
      plate = pair 200 800;
      load = pair 300 300;
      speed = pair 800 800;
      raise = 0;
      raise_check = 65535;
    };
    used = 500;
    estimate = 1400;
    allowed = 1000;
  };
  answer = 8842;
}

abbrev pub question_1 : Question
question_1 = record {
  row = record {
    seed = 42435;
    readings = record {
      pedal = pair 1000 0;
      plate = pair 0 1000;
      load = pair 40 120;
      speed = pair 3000 3000;
      raise = 0;
      raise_check = 65535;
    };
    used = 1000;
    estimate = 400;
    allowed = 200;
  };
  answer = 55753;
}

abbrev pub question_2 : Question
question_2 = record {
  row = record {
    seed = 3855;
    readings = record {
      pedal = pair 250 700;
      plate = pair 100 960;
      load = pair 500 490;
      speed = pair 1900 1900;
      raise = 600;
      raise_check = 64935;
    };
    used = 0;
    estimate = 65535;
    allowed = 65334;
  };
  answer = 44807;
}

abbrev pub question_3 : Question
question_3 = record {
  row = record {
    seed = 32769;
    readings = record {
      pedal = pair 1000 200;
      plate = pair 1000 0;
      load = pair 0 0;
      speed = pair 800 6000;
      raise = 300;
      raise_check = 300;
    };
    used = 750;
    estimate = 0;
    allowed = 0;
  };
  answer = 19505;
}

abbrev pub reference_questions : List Question
reference_questions = question_0 ∷ question_1 ∷ question_2 ∷ question_3 ∷ []

-- the whole calibration; the brake doesn't count
abbrev pub reference_parts : CalibrationParts
reference_parts = record {
  rules = reference_rules;
  plant = reference_plant;
  times = reference_times;
  questions = reference_questions;
  brake = false;
}
