-- Level 1's private world, and a step of it (C22).
use Rattle.std.specs.Prelude.{◌≡◌, ℕ, ◌+◌, ◌-◌, ◌<◌, if◌then◌else◌, ◌==◌, List, slice_index, slice_set, replicate, Option, Some, None}
use Rattle.std.specs.List.{slice_range}
use Rattle.eg_guard.specs.declared.regions.TheConstants.{DATA, IN_PORTS, IN_PORT_COUNT, THROTTLE, IGNITION, RESULTS, RESULT_COUNT}
use Rattle.eg_guard.specs.declared.regions.Region.{Region}
use Rattle.eg_guard.specs.declared.regions.Region.TheVariants.{Code, Data, InPorts, OutPorts, Results, Protected, Link, None as NoRegion}
use Rattle.eg_guard.specs.Regions.{region_of}
use Rattle.eg_guard.specs.Memory.{AreWords}
use Rattle.eg_word.specs.declared.registers.State.TheVariants.{Running}
use Rattle.eg_word.specs.declared.registers.Registers.{Registers}
use Rattle.eg_word.specs.Machine.{Step, step}

-- C22: level 1's own
pub record World : Type 0 where
  pub registers : Registers
  pub words : List ℕ
  pub throttle : ℕ
  pub ignition : ℕ

-- C22: what level 1 sees and can't change. Past its end the image is 0.
pub record View : Type 0 where
  pub image : List ℕ
  pub ports : List ℕ
  pub results : List ℕ

-- C22
unfoldable pub new_registers : Registers
new_registers = record { r = replicate 8 0; pc = 0; state = Running }

-- C22
unfoldable pub new_world : World
new_world = record {
  registers = new_registers;
  words = replicate (IN_PORTS - DATA) 0;
  throttle = 0;
  ignition = 0;
}

-- ---- a step of the world ----

-- what level 1 sees at an address of a region
unfoldable pub sight_in : Region → View → World → ℕ → Option ℕ
sight_in Code view world address = Some (slice_index view.image address)
sight_in Data view world address = Some (slice_index world.words (address - DATA))
sight_in InPorts view world address = Some (slice_index view.ports (address - IN_PORTS))
sight_in OutPorts view world address = Some (if address == THROTTLE then world.throttle else world.ignition)
sight_in Results view world address = Some (slice_index view.results (address - RESULTS))
sight_in Protected view world address = None
sight_in Link view world address = None
sight_in NoRegion view world address = None

unfoldable pub sight : View → World → ℕ → Option ℕ
sight view world address = sight_in (region_of address) view world address

-- the world after a store at an address of a region
unfoldable pub after_store_in : Region → World → ℕ → ℕ → World
after_store_in Data world address word = record world { words = slice_set world.words (address - DATA) word }
after_store_in OutPorts world address word =
    if address == THROTTLE then record world { throttle = word } else record world { ignition = word }
after_store_in _ world address word = world

unfoldable pub after_store : World → Option (ℕ × ℕ) → World
after_store world None = world
after_store world (Some stored) = after_store_in (region_of stored.0) world stored.0 stored.1

unfoldable pub after_step : World → Step → World
after_step world made = record (after_store world made.stored) { registers = made.registers }

-- C22
unfoldable pub world_step : View → World → World
world_step view world = after_step world (step (sight view world) world.registers)

-- ---- the world in a guarded memory ----

-- the world of these registers and of level 1's words of a memory
unfoldable pub world_of : Registers → List ℕ → World
world_of m words = record {
  registers = m;
  words = slice_range words DATA IN_PORTS;
  throttle = slice_index words THROTTLE;
  ignition = slice_index words IGNITION;
}

-- a memory of 4,096 words shows this view
pub record Shows (words : List ℕ) (view : View) : Type 0 where
  pub are_words : AreWords words
  pub image : (k : ℕ) → k < DATA → slice_index words k ≡ slice_index view.image k
  pub ports : (k : ℕ) → k < IN_PORT_COUNT → slice_index words (IN_PORTS + k) ≡ slice_index view.ports k
  pub results : (k : ℕ) → k < RESULT_COUNT → slice_index words (RESULTS + k) ≡ slice_index view.results k
