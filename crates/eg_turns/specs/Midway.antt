-- Inside a tick: what the memory holds after some slices of level 1 and some modules of level 2.
use Rattle.std.specs.Prelude.{◌≡◌, ℕ, ◌<◌, Bool, is_some, List, [], ◌∷◌, drop, slice_index, if◌then◌else◌}
use Rattle.eg_word.specs.declared.registers.Registers.{Registers}
use Rattle.eg_word.specs.World.{View, World, world_of}
use Rattle.eg_word.specs.declared.instruction.Instruction.{Instruction}
use Rattle.eg_word.specs.Program.{IsProgramOf}
use Rattle.eg_guard.specs.declared.regions.TheConstants.{DATA}
use Rattle.eg_guard.specs.Memory.{AreWords}
use Rattle.eg_answer.specs.declared.rules.Rules.{Rules}
use Rattle.eg_level2.specs.Words.{Words, AreMirrored, AreWithin, words_of}
use Rattle.eg_level2.specs.Inputs.{Level2Parts, readings_of, asked_of}
use Rattle.eg_level2.specs.declared.step.Step.{Step}
use Rattle.eg_level2.specs.Ticks.{Doing, after_modules, answer_at, orders_at, finds_at}
use Rattle.eg_fault.specs.Effects.{Effects}
use Rattle.eg_host.specs.Slices.{slices_from}
use Rattle.eg_turns.specs.Board.{by_tracks, ten_ports}
use Rattle.eg_turns.specs.declared.working.Task.{Task}

-- What a tick begins with: the image, what level 2 meets (`doing`) and its words; whether level 1 runs, how
-- many instructions it may do in each slice, and its world.
pub record Work : Type 0 where
  pub image : List ℕ
  pub doing : Doing
  pub words : Words
  pub level1 : Bool
  pub slices : List ℕ
  pub world : World

-- the five signals in their order, as level 2's words hold them
unfoldable pub signals_in : Words → List ℕ
signals_in words = words.pedal ∷ words.permitted ∷ words.actual ∷ words.excess ∷ words.pairs ∷ []

-- what slice j is shown: the signals are those that level 2's words hold after the modules below j
unfoldable pub view_at : Work → ℕ → View
view_at w j = record {
  image = w.image;
  ports = ten_ports w.doing.readings;
  results = signals_in (after_modules w.doing j w.words);
}

-- what the slices from j on make of a world
unfoldable pub rest_of : Work → ℕ → World → World
rest_of w j world = if w.level1 then slices_from j (view_at w) (drop j w.slices) world else world

-- what the board writes: the image, once, and at each tick the readings and the number of the question
pub record IsSet (w : Work) (memory : List ℕ) : Type 0 where
  pub are_words : AreWords memory
  pub code : (k : ℕ) → k < DATA → slice_index memory k ≡ slice_index w.image k
  pub readings : readings_of memory ≡ w.doing.readings
  pub asked : asked_of memory ≡ w.doing.asked

-- After this many slices of level 1 and this many modules of level 2: what the board wrote stands; level 2's
-- words are those after these modules, each with its complement; and the slices that are left make of level
-- 1's world now what all nine make of the world with which the tick began.
pub record IsMidway (w : Work) (slices modules : ℕ) (m : Registers) (memory : List ℕ) : Type 0 where
  pub set : IsSet w memory
  pub mirrored : AreMirrored memory
  pub words : words_of memory ≡ after_modules w.doing modules w.words
  pub world : rest_of w slices (world_of m memory) ≡ rest_of w 0 w.world

-- ---- what level 2 meets ----

-- What a tick does to level 2 (`d`) is what its parts, what is out of order at the tick, and its task say.
pub record Meets (parts : Level2Parts) (x : Effects) (task : Task) (d : Doing) : Type 0 where
  pub rules : d.rules ≡ parts.rules
  pub questions : d.questions ≡ parts.questions
  pub at : d.tick ≡ task.local
  pub phase_now : d.phase ≡ task.phase
  pub ran : d.ran ≡ x.ran
  pub disturbance : d.disturbance ≡ x.disturbance
  pub differs : d.differs ≡ is_some x.flip

-- The work of a tick of this task for these parts of level 2, with what is out of order at it.
pub record IsDue (parts : Level2Parts) (x : Effects) (task : Task) (w : Work) : Type 0 where
  pub meets : Meets parts x task w.doing
  pub readings : w.doing.readings ≡ by_tracks task.readings
  pub asked : w.doing.asked ≡ task.asked
  pub level1 : w.level1 ≡ x.level1
  pub budgets : w.slices ≡ task.slices

-- What the memory holds before each turn, whatever the tick: 4,096 words; of level 2's words each has its
-- complement, and no counter passes its limit; and the code is that of the program.
pub record IsReady (rules : Rules) (program : List Instruction) (memory : List ℕ) : Type 0 where
  pub are_words : AreWords memory
  pub mirrored : AreMirrored memory
  pub within : AreWithin rules (words_of memory)
  pub decoded : IsProgramOf memory program

-- what all eight order, answer and find
unfoldable pub tick_step : Doing → Words → Step
tick_step d words = record {
  open_path = orders_at d words;
  answer = answer_at d words;
  found = finds_at d words;
}
