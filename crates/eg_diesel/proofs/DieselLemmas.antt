-- What a step of the diesel plant keeps: rack and boost stay within their ranges, the quantity is at most the
-- rack and at most the smoke limit, and its estimate covers the torque.
use Rattle.std.proofs.Common.{ℕ, ◌≤◌, Bool, true, false, Option, Some, None, arith}
use Rattle.std.specs.Prelude.{min, if◌then◌else◌, IfSome}
use Rattle.eg_plant.specs.Gasoline.{next_plate}
use Rattle.eg_plant.specs.PlantParts.{PlantParts}
use Rattle.eg_plant.proofs.PlantLemmas.{moved_toward-most, torque_of-covered, torque_of-off}
use Rattle.eg_diesel.specs.Diesel.{next_rack, next_boost, smoke_limit, quantity_of}

-- the rack stays at most 1000
pub next_rack-most : (p : PlantParts) (rack command : ℕ) (on : Bool) (held : Option ℕ) → rack ≤ 1000 →
    IfSome held (λ at. at ≤ 1000) → next_rack p rack command on held ≤ 1000
unfolding next_plate
next_rack-most p rack command on (Some at) low within = within
next_rack-most p rack command on None low within = moved_toward-most 1000 rack _ p.slew low (target on)
  where
    target : (b : Bool) → (if b then min command 1000 else 0) ≤ 1000
    target true = omega arith
    target false = omega arith

-- so does the boost, which moves toward the rack
pub next_boost-most : (p : PlantParts) (rack boost : ℕ) → rack ≤ 1000 → boost ≤ 1000 → next_boost p rack boost ≤ 1000
unfolding next_boost
next_boost-most p rack boost low h = moved_toward-most 1000 boost rack p.fill h low

-- no more is injected than the rack meters
pub quantity_of-metered : (p : PlantParts) (rack boost : ℕ) (on : Bool) → quantity_of p rack boost on ≤ rack
unfolding quantity_of
quantity_of-metered p rack boost true = omega arith
quantity_of-metered p rack boost false = omega arith

-- nor than burns without smoke
pub quantity_of-burnt : (p : PlantParts) (rack boost : ℕ) (on : Bool) → quantity_of p rack boost on ≤ smoke_limit p boost
unfolding quantity_of
quantity_of-burnt p rack boost true = omega arith
quantity_of-burnt p rack boost false = omega arith

-- so the quantity is at most 1000 where the rack is
pub quantity_of-most : (p : PlantParts) (rack boost : ℕ) (on : Bool) → rack ≤ 1000 → quantity_of p rack boost on ≤ 1000
quantity_of-most p rack boost on low = let metered = quantity_of-metered p rack boost on in omega arith

-- the laws of a step
pub ruleset laws = (next_boost-most, quantity_of-metered, quantity_of-burnt, quantity_of-most, torque_of-covered, torque_of-off)
