-- An engine on the bench is a state at rest, a step from state to state, and what a state shows; each kind of
-- engine is one. What is asked of an engine so that the laws of records hold of it stands here too.
use Rattle.std.specs.Prelude.{◌≡◌, ℕ, Bool, false, Option}
use Rattle.eg_plant.specs.PlantParts.{PlantParts, ArePlantParts}
use Rattle.eg_plant.specs.Engine.{Shown, KeepsLaws}
use Rattle.eg_plant.specs.Gasoline.{Gasoline, at_rest, gasoline_step, shown_of}
use Rattle.eg_plant.specs.declared.engine_kind.EngineKind.{EngineKind}
use Rattle.eg_plant.specs.declared.engine_kind.EngineKind.TheVariants as kind
use Rattle.eg_diesel.specs.Diesel.{Diesel, diesel_step}
use Rattle.eg_diesel.specs.Diesel as of_diesel
use Rattle.eg_fault.specs.Classes.{IsHeldWithin}

-- An engine on the bench. E is the type of its states; a state may have more in it than the engine shows.
pub record BenchEngine (E : Type 0) : Type 0 where
  -- the state before the first tick
  pub rest : PlantParts → E
  -- the state after one step, by what is commanded to the plate and to the ignition, whether the power stages
  -- are on, and where the plate is held, if it is
  pub step : PlantParts → E → (throttle ignition : ℕ) → (on : Bool) → (held : Option ℕ) → E
  -- what a state shows
  pub shows : E → Shown

-- the gasoline engine
unfoldable pub gasoline : BenchEngine Gasoline
gasoline = record { rest = at_rest; step = gasoline_step; shows = shown_of }

-- the diesel engine, whose state at rest is the same for each plant
unfoldable pub diesel : BenchEngine Diesel
diesel = record { rest = λ plant. of_diesel.at_rest; step = diesel_step; shows = of_diesel.shown_of }

-- the states of an engine of this kind, and that engine
abbrev pub state_of : EngineKind → Type 0
state_of kind.Gasoline = Gasoline
state_of kind.Diesel = Diesel

abbrev pub bench_of : (engine : EngineKind) → BenchEngine (state_of engine)
bench_of kind.Gasoline = gasoline
bench_of kind.Diesel = diesel

-- What the laws of records ask of an engine. `Keeps` is a statement about a state that stays true from step
-- to step; each engine may bring its own.
pub record KeepsBenchLaws {E : Type 0} (b : BenchEngine E) (Keeps : PlantParts → E → Type 0) : Type 0 where
  -- the state before the first tick keeps it
  pub at_first : (plant : PlantParts) → ArePlantParts plant → Keeps plant (b.rest plant)
  -- and so does the state after each step, where a plate that is held is within its range
  pub goes_on : (plant : PlantParts) (e : E) → Keeps plant e →
      (throttle ignition : ℕ) (on : Bool) (held : Option ℕ) → IsHeldWithin held →
      Keeps plant (b.step plant e throttle ignition on held)
  -- what such a state shows keeps the laws of engines
  pub laws : (plant : PlantParts) (e : E) → Keeps plant e → KeepsLaws plant.kt (b.shows e)
  -- after a step with the stages off there is no torque
  pub off : (plant : PlantParts) (e : E) → Keeps plant e → (throttle ignition : ℕ) (held : Option ℕ) →
      (b.shows (b.step plant e throttle ignition false held)).torque ≡ 0

-- the two loads that an engine shows are the same
abbrev pub IsOneLoad : Shown → Type 0
IsOneLoad shown = shown.load_2 ≡ shown.load_1

-- what the sharp cut asks besides: the engine always shows one load twice
pub record ShowsOneLoad {E : Type 0} (b : BenchEngine E) : Type 0 where
  pub loads : (e : E) → IsOneLoad (b.shows e)
