-- The diesel engine has what the bench asks of an engine: what it keeps, and what follows of that.
use Rattle.std.proofs.Common.{◌≡◌, ℕ, ◌≤◌, Bool, false, Option, refl, arith}
use Rattle.std.specs.Prelude.{IfSome}
use Rattle.eg_plant.specs.Engine.{KeepsLaws}
use Rattle.eg_plant.specs.PlantParts.{PlantParts, ArePlantParts}
use Rattle.eg_plant.proofs.PlantLemmas.{torque_of-covered, torque_of-off}
use Rattle.eg_diesel.specs.Diesel.{Diesel, at_rest, next_rack, next_boost, quantity_of, diesel_step, shown_of}
use Rattle.eg_diesel.specs.Keeping.{IsKept}
use Rattle.eg_diesel.proofs.DieselLemmas.{next_rack-most, next_boost-most, quantity_of-metered, quantity_of-burnt, quantity_of-most}

-- the engine at rest keeps it
pub kept_at_first : (plant : PlantParts) → ArePlantParts plant → IsKept plant at_rest
unfolding at_rest
kept_at_first plant are = record {
  parts = are;
  rack = omega arith;
  boost = omega arith;
  metered = omega arith;
  burnt = omega arith;
  torque = omega arith;
}

-- and so does the engine after each step, where a plate that is held is within its range
pub kept_after : (plant : PlantParts) (d : Diesel) → IsKept plant d →
    (command ignition : ℕ) (on : Bool) (held : Option ℕ) → IfSome held (λ at. at ≤ 1000) →
    IsKept plant (diesel_step plant d command ignition on held)
unfolding diesel_step
kept_after plant d kept command ignition on held within =
    let rack = next_rack plant d.rack command on held in
    let boost = next_boost plant d.rack d.boost in
    let low = next_rack-most plant d.rack command on held kept.rack within in
    record {
      parts = kept.parts;
      rack = low;
      boost = next_boost-most plant d.rack d.boost kept.rack kept.boost;
      metered = quantity_of-metered plant rack boost on;
      burnt = quantity_of-burnt plant rack boost on;
      torque = torque_of-covered plant.kt (quantity_of plant rack boost on) ignition on
          (quantity_of-most plant rack boost on low) kept.parts.kt_most;
    }

-- such an engine shows the laws of every engine
pub kept-laws : (plant : PlantParts) (d : Diesel) → IsKept plant d → KeepsLaws plant.kt (shown_of d)
kept-laws plant d kept = record { position = kept.rack; load_1 = kept.torque; load_2 = kept.torque }

-- and there is no torque
pub diesel_step-off : (plant : PlantParts) (d : Diesel) (command ignition : ℕ) (held : Option ℕ) →
    (shown_of (diesel_step plant d command ignition false held)).torque ≡ 0
unfolding diesel_step
diesel_step-off plant d command ignition held =
    torque_of-off plant.kt (quantity_of plant (next_rack plant d.rack command false held) (next_boost plant d.rack d.boost) false)
    ignition false refl

-- a diesel engine shows one load twice
pub shown_of-one_load : (d : Diesel) → (shown_of d).load_2 ≡ (shown_of d).load_1
shown_of-one_load d = refl
