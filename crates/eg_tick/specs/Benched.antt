-- What makes an engine one that the bench of the model knows.
use Rattle.std.specs.Prelude.{◌≡◌, ℕ, Bool, Option}
use Rattle.eg_plant.specs.PlantParts.{PlantParts}
use Rattle.eg_plant.specs.Engine.{Shown}
use Rattle.eg_plant.specs.Gasoline.{Gasoline, GasolinePlant}
use Rattle.eg_diesel.specs.Diesel.{Diesel, DieselPlant}
use Rattle.eg_model.specs.Engines.{BenchEngine}

-- The engine of type E that has this plant and has come to this state of the model's engine: for each type of
-- engines a function of plant and state.
abbrev pub ComeTo : (S E : Type 0) → Type 0
ComeTo S E = PlantParts → S → E

abbrev pub gasoline_of : ComeTo Gasoline GasolinePlant
gasoline_of plant state = record { parts = plant; state = state }

abbrev pub diesel_of : ComeTo Diesel DieselPlant
diesel_of plant state = record { parts = plant; state = state }

-- the engine shows what the state shows
abbrev pub ShowsAs : {S E : Type 0} → BenchEngine S → ComeTo S E → (E → Shown) → Type 0
ShowsAs {S = S} b come_to shows =
    (plant : PlantParts) (state : S) → shows (come_to plant state) ≡ b.shows state

-- the engine's `kt` is that of the plant
abbrev pub HasKtOfPlant : {S E : Type 0} → ComeTo S E → (E → ℕ) → Type 0
HasKtOfPlant {S = S} come_to kt = (plant : PlantParts) (state : S) → kt (come_to plant state) ≡ plant.kt

-- after a step the engine has come to the state after that step
abbrev pub StepsAs : {S E : Type 0} → BenchEngine S → ComeTo S E
    → (E → ℕ → ℕ → Bool → Option ℕ → E → Type 0) → Type 0
StepsAs {S = S} {E = E} b come_to steps = (plant : PlantParts) (state : S) (throttle ignition : ℕ) (on : Bool)
    (held : Option ℕ) (new : E) → steps (come_to plant state) throttle ignition on held new →
    new ≡ come_to plant (b.step plant state throttle ignition on held)
