-- What an engine shows, and the laws that it keeps (C19).
use Rattle.std.specs.Prelude.{ℕ, ◌≤◌}
use Rattle.eg_num.specs.Arithmetic.{estimate}

-- C18: position and loads in per mille, torque in tenths of Nm
pub record Shown : Type 0 where
  pub position : ℕ
  pub load_1 : ℕ
  pub load_2 : ℕ
  pub torque : ℕ

-- C19, but for the law of stages that are off, which stands in `KeepsBenchLaws` of `eg_model`
pub record KeepsLaws (kt : ℕ) (shown : Shown) : Type 0 where
  pub position : shown.position ≤ 1000
  pub load_1 : shown.torque ≤ estimate kt shown.load_1
  pub load_2 : shown.torque ≤ estimate kt shown.load_2
