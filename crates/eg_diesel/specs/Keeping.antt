-- What a diesel engine keeps from step to step.
use Rattle.std.specs.Prelude.{◌≡◌, ℕ, ◌≤◌}
use Rattle.eg_num.specs.Arithmetic.{estimate}
use Rattle.eg_plant.specs.PlantParts.{PlantParts, ArePlantParts}
use Rattle.eg_diesel.specs.Diesel.{Diesel, smoke_limit}

-- rack and boost are within their ranges; no more is injected than the rack meters, nor than burns in the
-- boost without smoke; and the quantity covers the torque
pub record IsKept (p : PlantParts) (d : Diesel) : Type 0 where
  pub parts : ArePlantParts p
  pub rack : d.rack ≤ 1000
  pub boost : d.boost ≤ 1000
  pub metered : d.quantity ≤ d.rack
  pub burnt : d.quantity ≤ smoke_limit p d.boost
  pub torque : d.torque ≤ estimate p.kt d.quantity

-- the engine also keeps the smoke limit of its boost from one step to the next, and this is that of the plant
pub record KeepsSmokeLimit (p : PlantParts) (d : Diesel) (limit : ℕ) : Type 0 where
  pub state : IsKept p d
  pub limited : limit ≡ smoke_limit p d.boost
