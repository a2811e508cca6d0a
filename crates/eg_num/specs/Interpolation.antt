-- Interpolation (C3). `IsValueAt` is the rule, for any neighbours that enclose x; `value_at` computes the
-- value.
use Rattle.std.specs.Prelude.{◌≡◌, ℕ, suc, ◌+◌, ◌*◌, ◌-◌, ◌/◌, ◌≤◌, ◌<◌, List, [], ◌∷◌, length, slice_index, if◌then◌else◌, nat_le}
use Rattle.std.specs.List.Sorted.{IsStrictlyIncreasing}

-- C3, between two points
abbrev pub lerp : ℕ → ℕ → ℕ → ℕ → ℕ → ℕ
lerp x0 y0 x1 y1 x = (y0 * (x1 - x) + y1 * (x - x0)) / (x1 - x0)

-- C3
abbrev pub IsAxis : List ℕ → Type 0
IsAxis points = (2 ≤ length points) × (length points ≤ 16) × IsStrictlyIncreasing points

-- C3; `value i` is the value at point i
pub record IsValueAt (points : List ℕ) (value : ℕ → ℕ) (x y : ℕ) : Type 0 where
  pub below : x ≤ slice_index points 0 → y ≡ value 0
  pub above : slice_index points (length points - 1) ≤ x → y ≡ value (length points - 1)
  pub between : (i : ℕ) → i + 1 < length points → slice_index points i ≤ x → x ≤ slice_index points (i + 1) →
      y ≡ lerp (slice_index points i) (value i) (slice_index points (i + 1)) (value (i + 1)) x

-- C3, computed
unfoldable pub value_at : List ℕ → (ℕ → ℕ) → ℕ → ℕ
value_at [] value x = 0
value_at (x0 ∷ []) value x = value 0
value_at (x0 ∷ x1 ∷ xs) value x =
    if nat_le x x0 then value 0
    else if nat_le x x1 then lerp x0 (value 0) x1 (value 1) x
    else value_at (x1 ∷ xs) (λ i. value (suc i)) x

-- the greatest place up to the last but one whose point is at most x, or 0 if there is none
pub record IsLocated (points : List ℕ) (x i : ℕ) : Type 0 where
  pub within : i + 2 ≤ length points
  pub before : x < slice_index points 0 → i ≡ 0
  pub at_most : slice_index points 0 ≤ x → slice_index points i ≤ x
  pub greatest : (k : ℕ) → k + 2 ≤ length points → slice_index points k ≤ x → k ≤ i

-- C3: a table of one axis
pub record Curve : Type 0 where
  pub axis : List ℕ
  pub values : List ℕ

-- C3
abbrev pub IsCurve : Curve → Type 0
IsCurve c = IsAxis c.axis × (length c.values ≡ length c.axis)

abbrev pub curve_at : Curve → ℕ → ℕ
curve_at c x = value_at c.axis (slice_index c.values) x

-- C3: a table of two axes; the values stand row by row
pub record Grid : Type 0 where
  pub rows : List ℕ
  pub columns : List ℕ
  pub values : List ℕ

-- C3
abbrev pub IsGrid : Grid → Type 0
IsGrid g = IsAxis g.rows × IsAxis g.columns × (length g.values ≡ length g.rows * length g.columns)

abbrev pub cell : Grid → ℕ → ℕ → ℕ
cell g i j = slice_index g.values (i * length g.columns + j)

abbrev pub row_at : Grid → ℕ → ℕ → ℕ
row_at g column i = value_at g.columns (cell g i) column

-- C3: first by the columns in each row, then by the rows
abbrev pub grid_at : Grid → ℕ → ℕ → ℕ
grid_at g row column = value_at g.rows (row_at g column) row

-- C3, for any neighbours that enclose the place
abbrev pub IsGridValueAt : Grid → ℕ → ℕ → ℕ → Type 0
IsGridValueAt g row column y = (along : ℕ → ℕ) ×
    ((i : ℕ) → i < length g.rows → IsValueAt g.columns (cell g i) column (along i))
    × IsValueAt g.rows along row y
