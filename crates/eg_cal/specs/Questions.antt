-- The questions of a calibration file (F20): 2 to 64 tables, each with all of eleven names and no other.
use Rattle.std.specs.Prelude.{ℕ, List, [], ◌∷◌, codes, Option, Some, None, if◌then◌else◌}
use Rattle.toml.specs.Data.{Data, Members, get_member, as_table}
use Rattle.eg_sensor.specs.declared.readings.Readings.{Readings}
use Rattle.eg_answer.specs.declared.rules.TestRow.{TestRow}
use Rattle.eg_answer.specs.declared.questions.Question.{Question}
use Rattle.eg_toml.specs.Values.{number_at, ◌>>=◌}
use Rattle.eg_toml.specs.Arrays.{numbers_in, array_in, one}
use Rattle.eg_toml.specs.Names.{all_names, is_among}

abbrev pub question_names : List (List ℕ)
question_names =
    codes "seed" ∷ codes "pedal" ∷ codes "plate" ∷ codes "load" ∷ codes "speed" ∷ codes "raise"
    ∷ codes "check" ∷ codes "used" ∷ codes "estimate" ∷ codes "allowed" ∷ codes "answer" ∷ []

abbrev pub word_at : List ℕ → Members → Option ℕ
word_at name ms = number_at 0 65535 name ms

abbrev pub pair_at : List ℕ → Members → Option (List ℕ)
pair_at name ms = get_member name ms >>= numbers_in 2 2 65535

unfoldable pub readings_in : Members → Option Readings
readings_in ms = do
  pedal ← pair_at (codes "pedal") ms
  plate ← pair_at (codes "plate") ms
  load ← pair_at (codes "load") ms
  speed ← pair_at (codes "speed") ms
  raise ← word_at (codes "raise") ms
  check ← word_at (codes "check") ms
  Some (record {
    pedal = pedal;
    plate = plate;
    load = load;
    speed = speed;
    raise = raise;
    raise_check = check;
  })

unfoldable pub row_in : Members → Option TestRow
row_in ms = do
  seed ← word_at (codes "seed") ms
  readings ← readings_in ms
  used ← word_at (codes "used") ms
  estimate ← word_at (codes "estimate") ms
  allowed ← word_at (codes "allowed") ms
  Some (record {
    seed = seed;
    readings = readings;
    used = used;
    estimate = estimate;
    allowed = allowed;
  })

unfoldable pub asked_in : Members → Option Question
asked_in ms = do
  row ← row_in ms
  answer ← word_at (codes "answer") ms
  Some (record { row = row; answer = answer })

-- F20: a table with all these names, and no other
abbrev pub question_in : Members → Option Question
question_in ms = if all_names (is_among question_names) ms then asked_in ms else None

abbrev pub question_of : Data → Option Question
question_of d = as_table d >>= question_in

abbrev pub questions_in : Data → Option (List Question)
questions_in d = array_in 2 64 (one question_of) d
