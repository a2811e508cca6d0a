-- A step of the gasoline engine (C18). One step is one tick.
use Rattle.std.specs.Prelude.{◌≡◌, ℕ, ◌*◌, ◌/◌, Bool, Option, None, Some, min, if◌then◌else◌}
use Rattle.eg_num.specs.Arithmetic.{moved_toward}
use Rattle.eg_num.specs.Interpolation.{curve_at}
use Rattle.eg_plant.specs.Engine.{Shown}
use Rattle.eg_plant.specs.PlantParts.{PlantParts}

-- plate and charge in per mille, torque in tenths of Nm
pub record Gasoline : Type 0 where
  pub plate : ℕ
  pub charge : ℕ
  pub torque : ℕ

-- C18, at rest
unfoldable pub at_rest : PlantParts → Gasoline
at_rest p = record { plate = 0; charge = curve_at p.charge 0; torque = 0 }

-- C18, the plate
unfoldable pub next_plate : PlantParts → ℕ → ℕ → Bool → Option ℕ → ℕ
next_plate p plate throttle on (Some held) = held
next_plate p plate throttle on None = moved_toward plate (if on then min throttle 1000 else 0) p.slew

-- C18, the charge
unfoldable pub next_charge : PlantParts → ℕ → ℕ → ℕ
next_charge p plate charge = moved_toward charge (curve_at p.charge plate) p.fill

-- C18, the torque
unfoldable pub torque_of : ℕ → ℕ → ℕ → Bool → ℕ
torque_of kt charge ignition on = if on then charge * kt * min ignition 1000 / 1000000 else 0

-- C18
unfoldable pub gasoline_step : PlantParts → Gasoline → ℕ → ℕ → Bool → Option ℕ → Gasoline
gasoline_step p g throttle ignition on held = record {
  plate = next_plate p g.plate throttle on held;
  charge = next_charge p g.plate g.charge;
  torque = torque_of p.kt (next_charge p g.plate g.charge) ignition on;
}

-- C18: both loads are the charge
abbrev pub shown_of : Gasoline → Shown
shown_of g = record { position = g.plate; load_1 = g.charge; load_2 = g.charge; torque = g.torque }

-- a gasoline engine: the data of its plant, and the state that it has come to
pub record GasolinePlant : Type 0 where
  pub parts : PlantParts
  pub state : Gasoline

abbrev pub StepsAsGasoline : GasolinePlant → ℕ → ℕ → Bool → Option ℕ → GasolinePlant → Type 0
StepsAsGasoline old throttle ignition on held new =
    new ≡ record { parts = old.parts; state = gasoline_step old.parts old.state throttle ignition on held }
