-- The permit table (C4), and what it permits (C5). Its rows are those of the pedal, in per mille, its columns
-- those of the speed, in rpm, and its values are in tenths of Nm.
use Rattle.std.specs.Prelude.{ℕ, ◌+◌, ◌-◌, ◌≤◌, ◌<◌, length, min, max}
use Rattle.eg_num.specs.Drive.{DriveRow}
use Rattle.eg_num.specs.Interpolation.{Grid, IsGrid, cell, grid_at}

-- row i has a value below that of the row before it, in some column
pub record FallsAt (g : Grid) (i : ℕ) : Type 0 where
  pub later : 1 ≤ i
  pub row : i < length g.rows
  pub column : ℕ
  pub within : column < length g.columns
  pub below : cell g i column < cell g (i - 1) column

-- row i is the first such row
pub record IsFirstFall (g : Grid) (i : ℕ) : Type 0 where
  pub falls : FallsAt g i
  pub first : (k : ℕ) → k < i → ¬ FallsAt g k

-- C4
abbrev pub DoesNotFall : Grid → Type 0
DoesNotFall g = (i j : ℕ) → i + 1 < length g.rows → j < length g.columns → cell g i j ≤ cell g (i + 1) j

-- C5, of two speeds
unfoldable pub permitted : Grid → ℕ → ℕ → ℕ → ℕ → ℕ
permitted g pedal speed_a speed_b raise = max (min (grid_at g pedal speed_a) (grid_at g pedal speed_b)) raise

-- C5, of a drive row
unfoldable pub drive_permits : Grid → DriveRow → ℕ
drive_permits g row = max (grid_at g row.pedal row.speed) row.raise

-- C4: a greater pedal or a greater raise never permits less, whatever the two speeds
abbrev pub PermitRises : Type 0
PermitRises = (g : Grid) → IsGrid g → DoesNotFall g → (p q a b r s : ℕ) → p ≤ q → r ≤ s →
    permitted g p a b r ≤ permitted g q a b s
