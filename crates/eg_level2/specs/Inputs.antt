-- What goes into one run of a module besides level 2's words.
use Rattle.std.specs.Prelude.{◌≡◌, ◌≤◌, ℕ, ◌+◌, ◌%◌, List, [], ◌∷◌, length, slice_index}
use Rattle.eg_guard.specs.declared.regions.TheConstants.{IN_PORTS, LINK}
use Rattle.eg_sensor.specs.declared.readings.Readings.{Readings}
use Rattle.eg_answer.specs.declared.rules.Rules.{Rules}
use Rattle.eg_answer.specs.declared.rules.TestRow.{TestRow}
use Rattle.eg_answer.specs.declared.questions.Question.{Question}
use Rattle.eg_answer.specs.Questions.{question_at}
use Rattle.eg_answer.specs.Answers.{results_of}
use Rattle.eg_num.specs.Interpolation.{grid_at}
use Rattle.eg_level2.specs.declared.results.RowResults.{RowResults}
use Rattle.eg_level2.specs.declared.lookup.Lookup.{Lookup}
use Rattle.eg_level2.specs.declared.lookup.Prepared.{Prepared}
use Rattle.eg_level2.specs.declared.phase.Phase.{Phase}

-- what level 2 is made of: the rules that it follows, and the questions that it answers
pub record Level2Parts : Type 0 where
  pub rules : Rules
  pub questions : List Question

-- there are at least two questions
abbrev pub AreParts : Level2Parts → Type 0
AreParts parts = 2 ≤ length parts.questions

-- what goes into one run: the rules and the questions, the readings at the input ports, the number of the
-- question at the link, the tick, its phase, and what disturbs the run (0 where nothing does)
pub record Inputs : Type 0 where
  pub rules : Rules
  pub questions : List Question
  pub readings : Readings
  pub asked : ℕ
  pub tick : ℕ
  pub phase : Phase
  pub disturbance : ℕ

-- the readings that stand at the ten input ports
unfoldable pub readings_of : List ℕ → Readings
readings_of memory = record {
  pedal = slice_index memory IN_PORTS ∷ slice_index memory (IN_PORTS + 1) ∷ [];
  plate = slice_index memory (IN_PORTS + 2) ∷ slice_index memory (IN_PORTS + 3) ∷ [];
  load = slice_index memory (IN_PORTS + 4) ∷ slice_index memory (IN_PORTS + 5) ∷ [];
  speed = slice_index memory (IN_PORTS + 6) ∷ slice_index memory (IN_PORTS + 7) ∷ [];
  raise = slice_index memory (IN_PORTS + 8);
  raise_check = slice_index memory (IN_PORTS + 9);
}

-- the number that stands at the link
unfoldable pub asked_of : List ℕ → ℕ
asked_of memory = slice_index memory LINK

-- the inputs of a run over this memory
unfoldable pub inputs_of : Level2Parts → List ℕ → ℕ → Phase → ℕ → Inputs
inputs_of parts memory tick phase disturbance = record {
  rules = parts.rules;
  questions = parts.questions;
  readings = readings_of memory;
  asked = asked_of memory;
  tick = tick;
  phase = phase;
  disturbance = disturbance;
}

-- the seed of a test row and its five results
unfoldable pub results_by : Rules → TestRow → RowResults
results_by rules row = record { seed = row.seed; results = results_of rules row }

-- the permit table has this torque at the pedal and the speed that were looked up
abbrev pub IsLookup : Rules → Lookup → Type 0
IsLookup rules lookup = lookup.torque ≡ grid_at rules.permit lookup.pedal lookup.speed

-- the test row of the question that is asked, its number taken modulo the count of questions
unfoldable pub row_of : List Question → ℕ → TestRow
row_of questions asked = (question_at questions (asked % length questions)).row

-- What is prepared for a run at which this number is asked: what was looked up stands in the permit table,
-- and the results are those of the question's row.
pub record IsPrepared (parts : Level2Parts) (asked : ℕ) (prepared : Prepared) : Type 0 where
  pub lookup : IsLookup parts.rules prepared.lookup
  pub row : prepared.row ≡ results_by parts.rules (row_of parts.questions asked)
