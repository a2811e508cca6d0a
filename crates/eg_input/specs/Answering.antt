-- The answer of a partner, in one line (F36). Its line feed is taken off already.
use Rattle.std.specs.Prelude.{ℕ, Bool, List, Option, Some}
use Rattle.std.specs.Str.{byte}
use Rattle.eg_input.specs.Fields.{number_of, truth_of, first_said, ◌>>=◌}
use Rattle.eg_input.specs.Recording.{before_return, first_number}
use Rattle.eg_input.specs.declared.answered.PartnerAnswer.{PartnerAnswer}

-- the truth value before the first comma of a text, and what stands behind this comma
abbrev pub first_truth : List ℕ → Option (Bool × List ℕ)
first_truth = first_said (byte ",") truth_of

-- F36; numbers and ends of lines as in F13
unfoldable pub answer_of : List ℕ → Option PartnerAnswer
answer_of line = do
  (pedal, rest) ← first_number 1000 (before_return line)
  (speed, rest) ← first_number 8000 rest
  (raise, rest) ← first_number 10000 rest
  (reset, rest) ← first_truth rest
  (brake, rest) ← first_truth rest
  (position, rest) ← first_number 1000 rest
  (load_1, rest) ← first_number 65535 rest
  (load_2, rest) ← first_number 65535 rest
  torque ← number_of 65535 rest
  Some (record {
    drive = record { pedal = pedal; speed = speed; raise = raise; reset = reset; brake = brake };
    told = record { position = position; load_1 = load_1; load_2 = load_2; torque = torque };
  })
