-- The data of a plant (C18), with either engine.
use Rattle.std.specs.Prelude.{ℕ, ◌≤◌, All}
use Rattle.eg_num.specs.Interpolation.{Curve}

-- C18
pub record PlantParts : Type 0 where
  pub slew : ℕ
  pub fill : ℕ
  pub charge : Curve
  pub kt : ℕ

-- C18
pub record ArePlantParts (p : PlantParts) : Type 0 where
  pub slew_least : 1 ≤ p.slew
  pub slew_most : p.slew ≤ 1000
  pub fill_least : 1 ≤ p.fill
  pub fill_most : p.fill ≤ 1000
  pub kt_least : 1 ≤ p.kt
  pub kt_most : p.kt ≤ 10000
  pub charges : All (λ charge. charge ≤ 1000) p.charge.values
