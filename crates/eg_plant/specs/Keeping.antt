-- What a gasoline engine keeps from step to step.
use Rattle.std.specs.Prelude.{◌≡◌, ℕ, ◌≤◌}
use Rattle.eg_num.specs.Arithmetic.{estimate}
use Rattle.eg_num.specs.Interpolation.{curve_at}
use Rattle.eg_plant.specs.Gasoline.{Gasoline}
use Rattle.eg_plant.specs.PlantParts.{PlantParts, ArePlantParts}

-- plate and charge are within their ranges, and the charge covers the torque
pub record IsKept (p : PlantParts) (g : Gasoline) : Type 0 where
  pub parts : ArePlantParts p
  pub plate : g.plate ≤ 1000
  pub charge : g.charge ≤ 1000
  pub torque : g.torque ≤ estimate p.kt g.charge

-- the engine also keeps the charge of its plate from one step to the next, and this is that of the curve
pub record KeepsFilling (p : PlantParts) (g : Gasoline) (filling : ℕ) : Type 0 where
  pub state : IsKept p g
  pub filled : filling ≡ curve_at p.charge g.plate
