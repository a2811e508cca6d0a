-- A step of the diesel engine (C18). One step is one tick. The plant uses the data of the gasoline plant:
-- `charge` is read as the smoke limit of each boost, `slew` is the most that the rack moves in a tick, and
-- `fill` the most that the boost does.
use Rattle.std.specs.Prelude.{◌≡◌, ℕ, Bool, Option, min, if◌then◌else◌}
use Rattle.eg_num.specs.Arithmetic.{moved_toward}
use Rattle.eg_num.specs.Interpolation.{curve_at}
use Rattle.eg_plant.specs.Engine.{Shown}
use Rattle.eg_plant.specs.Gasoline.{next_plate, torque_of}
use Rattle.eg_plant.specs.PlantParts.{PlantParts}

-- rack, boost and quantity in per mille, torque in tenths of Nm
pub record Diesel : Type 0 where
  pub rack : ℕ
  pub boost : ℕ
  pub quantity : ℕ
  pub torque : ℕ

-- C18, at rest
unfoldable pub at_rest : Diesel
at_rest = record { rack = 0; boost = 0; quantity = 0; torque = 0 }

-- C18, the rack
abbrev pub next_rack : PlantParts → ℕ → ℕ → Bool → Option ℕ → ℕ
next_rack p rack command on held = next_plate p rack command on held

-- C18, the boost
unfoldable pub next_boost : PlantParts → ℕ → ℕ → ℕ
next_boost p rack boost = moved_toward boost rack p.fill

-- C18, the smoke limit
abbrev pub smoke_limit : PlantParts → ℕ → ℕ
smoke_limit p boost = curve_at p.charge boost

-- C18, the load
unfoldable pub quantity_of : PlantParts → ℕ → ℕ → Bool → ℕ
quantity_of p rack boost on = if on then min rack (smoke_limit p boost) else 0

-- C18
unfoldable pub diesel_step : PlantParts → Diesel → ℕ → ℕ → Bool → Option ℕ → Diesel
diesel_step p d command ignition on held =
    let rack = next_rack p d.rack command on held in
    let boost = next_boost p d.rack d.boost in
    let quantity = quantity_of p rack boost on in
    record { rack = rack; boost = boost; quantity = quantity; torque = torque_of p.kt quantity ignition on }

-- C18: both loads are the quantity, and the boost isn't shown
abbrev pub shown_of : Diesel → Shown
shown_of d = record { position = d.rack; load_1 = d.quantity; load_2 = d.quantity; torque = d.torque }

-- a diesel engine: the data of its plant, and the state that it has come to
pub record DieselPlant : Type 0 where
  pub parts : PlantParts
  pub state : Diesel

abbrev pub StepsAsDiesel : DieselPlant → ℕ → ℕ → Bool → Option ℕ → DieselPlant → Type 0
StepsAsDiesel old command ignition on held new =
    new ≡ record { parts = old.parts; state = diesel_step old.parts old.state command ignition on held }
