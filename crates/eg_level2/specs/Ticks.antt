-- One tick of level 2: its eight modules, one after another, each where it runs.
use Rattle.std.specs.Prelude.{ℕ, zero, suc, Bool, ◌&&◌, ◌==◌, List, Option, None, if◌then◌else◌}
use Rattle.eg_num.specs.declared.watches.Watches.{Watches}
use Rattle.eg_sensor.specs.declared.readings.Readings.{Readings}
use Rattle.eg_answer.specs.declared.modules.TheConstants.{CHECK, DEBOUNCE, REACT, MODULES}
use Rattle.eg_answer.specs.declared.rules.Rules.{Rules}
use Rattle.eg_answer.specs.declared.questions.Question.{Question}
use Rattle.eg_level2.specs.declared.phase.Phase.{Phase}
use Rattle.eg_level2.specs.Words.{Words}
use Rattle.eg_level2.specs.Inputs.{Inputs}
use Rattle.eg_level2.specs.Modules.{module_step, given_up, debounced, no_watches, opens_now, answer_of}

-- What level 2 meets at a tick: its rules and questions, the readings, the number of the question that is
-- asked, the tick and its phase, which modules run, what disturbs each of them, and whether a word differs
-- from its complement as module 0 begins.
pub record Doing : Type 0 where
  pub rules : Rules
  pub questions : List Question
  pub readings : Readings
  pub asked : ℕ
  pub tick : ℕ
  pub phase : Phase
  pub ran : ℕ → Bool
  pub disturbance : ℕ → ℕ
  pub differs : Bool

-- what goes into module i
unfoldable pub inputs_for : Doing → ℕ → Inputs
inputs_for d i = record {
  rules = d.rules;
  questions = d.questions;
  readings = d.readings;
  asked = d.asked;
  tick = d.tick;
  phase = d.phase;
  disturbance = d.disturbance i;
}

-- the words after module i: a module that doesn't run leaves them, and module 0 gives all up where a word
-- differs from its complement
unfoldable pub after_module : Doing → ℕ → Words → Words
after_module d i words =
    if d.ran i
    then (if i == CHECK && d.differs then given_up d.tick else module_step (inputs_for d i) i words)
    else words

-- the words after the first modules, as many as the number says, and after all eight
unfoldable pub after_modules : Doing → ℕ → Words → Words
after_modules d zero words = words
after_modules d (suc i) words = after_module d i (after_modules d i words)

unfoldable pub after_tick : Doing → Words → Words
after_tick d words = after_modules d MODULES words

-- the answer that is sent, if any, and whether path 1 is ordered open: both by react, on the words as it
-- begins
unfoldable pub answer_at : Doing → Words → Option ℕ
answer_at d words =
    if d.ran REACT then answer_of d.phase (after_modules d REACT words) else None

unfoldable pub orders_at : Doing → Words → Bool
orders_at d words = d.ran REACT && opens_now d.phase (after_modules d REACT words)

-- the watches that are found: that of the mirrored words by check, the others by debounce
unfoldable pub finds_at : Doing → Words → Watches
finds_at d words =
    let found = if d.ran DEBOUNCE then debounced d.rules d.phase (after_modules d DEBOUNCE words)
    else no_watches in
    record found { mirror = d.ran CHECK && d.differs }
