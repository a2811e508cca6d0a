-- What the gasoline engine brings to the bench.
use Rattle.std.proofs.Common.{ℕ, ◌≤◌, Bool, false, refl, arith, Option, Some, None}
use Rattle.std.specs.Prelude.{min, if◌then◌else◌}
use Rattle.eg_plant.specs.PlantParts.{PlantParts, ArePlantParts}
use Rattle.eg_plant.specs.Gasoline.{Gasoline, at_rest, next_plate, next_charge, gasoline_step}
use Rattle.eg_plant.specs.Keeping.{IsKept}
use Rattle.eg_plant.proofs.PlantLemmas.{curve_at-most, moved_toward-most, next_charge-most, torque_of-covered, torque_of-off}
use Rattle.eg_fault.specs.Classes.{IsHeldWithin}
use Rattle.eg_model.specs.Engines.{gasoline, KeepsBenchLaws, ShowsOneLoad}

next_plate-most : (plant : PlantParts) (plate throttle : ℕ) (on : Bool) (held : Option ℕ) → plate ≤ 1000 →
    IsHeldWithin held → next_plate plant plate throttle on held ≤ 1000
unfolding next_plate
next_plate-most plant plate throttle on (Some at) low h = h
next_plate-most plant plate throttle on None low h =
    moved_toward-most 1000 plate _ plant.slew low (commanded on)
  where
    commanded : (b : Bool) → (if b then min throttle 1000 else 0) ≤ 1000
    commanded b = grind arith

kept_at_first : (plant : PlantParts) → ArePlantParts plant → IsKept plant (at_rest plant)
unfolding at_rest
kept_at_first plant are = record {
  parts = are;
  plate = omega arith;
  charge = curve_at-most 1000 plant.charge 0 are.charges;
  torque = omega arith;
}

kept_after : (plant : PlantParts) (g : Gasoline) → IsKept plant g →
    (throttle ignition : ℕ) (on : Bool) (held : Option ℕ) → IsHeldWithin held →
    IsKept plant (gasoline_step plant g throttle ignition on held)
unfolding gasoline_step
kept_after plant g kept throttle ignition on held within =
    let charge = next_charge-most plant g.plate g.charge kept.parts kept.charge in
    record {
      parts = kept.parts;
      plate = next_plate-most plant g.plate throttle on held kept.plate within;
      charge = charge;
      torque = torque_of-covered plant.kt (next_charge plant g.plate g.charge) ignition on charge kept.parts.kt_most;
    }

pub gasoline_keeps : KeepsBenchLaws gasoline IsKept
unfolding gasoline
gasoline_keeps = record {
  at_first = kept_at_first;
  goes_on = kept_after;
  laws = λ plant g kept. record { position = kept.plate; load_1 = kept.torque; load_2 = kept.torque };
  off = λ plant g kept throttle ignition held. unfold gasoline_step in
      torque_of-off plant.kt (next_charge plant g.plate g.charge) ignition false refl;
}

pub gasoline_shows_one_load : ShowsOneLoad gasoline
unfolding gasoline
gasoline_shows_one_load = record { loads = λ g. refl }
