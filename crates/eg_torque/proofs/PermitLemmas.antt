-- Laws of the permit table.
use Rattle.std.proofs.Common.{◌≡◌, ℕ, ◌+◌, ◌-◌, ◌≤◌, ◌<◌, min, max, length, arith, subst}
use Rattle.eg_num.specs.Interpolation.{Grid, IsGrid, cell, row_at, grid_at}
use Rattle.eg_num.proofs.RisingLemmas.{value_at-under, value_at-rises}
use Rattle.eg_num.specs.Drive.{DriveRow}
use Rattle.eg_torque.specs.Permit.{FallsAt, DoesNotFall, permitted, drive_permits, PermitRises}

-- between the points, too, the value of a table that doesn't fall from row to row doesn't fall with the row
pub grid_at-rises : (g : Grid) → IsGrid g → DoesNotFall g → (p q column : ℕ) → p ≤ q → grid_at g p column ≤ grid_at g q column
grid_at-rises g ok rows p q column h =
    value_at-rises g.rows (row_at g column) p q ok.0.2 (λ i below. value_at-under g.columns (cell g i) (cell g (i + 1)) column (λ j within. rows i j below within)) h

-- so the permitted torque doesn't fall where the pedal or the raise rises
pub permitted-rises : PermitRises
unfolding permitted
permitted-rises g ok rows p q a b r s h k = limits _ _ _ _ r s (grid_at-rises g ok rows p q a h) (grid_at-rises g ok rows p q b h) k
  where
    limits : (a b c d r s : ℕ) → a ≤ b → c ≤ d → r ≤ s → max (min a c) r ≤ max (min b d) s
    limits a b c d r s l m k = omega arith

-- a table of which no row falls doesn't fall
pub does_not_fall : (g : Grid) → ((k : ℕ) → k < length g.rows → ¬ FallsAt g k) → DoesNotFall g
does_not_fall g none i j below within = not_less _ _ (λ less. none (i + 1) below (record { later = omega arith; row = below; column = j; within = within; below = at_row less }))
  where
    not_less : (m n : ℕ) → ¬ (n < m) → m ≤ n
    not_less m n h = omega arith

    at_row : cell g (i + 1) j < cell g i j → cell g (i + 1) j < cell g (i + 1 - 1) j
    at_row less = let same : i ≡ i + 1 - 1 = omega arith in let P : ℕ → Type 0 = λ n. cell g (i + 1) j < cell g n j in subst P same less

-- what a drive row permits is what is permitted where both speeds that are read are its own
pub drive_permits-permitted : (g : Grid) (row : DriveRow) → drive_permits g row ≡ permitted g row.pedal row.speed row.speed row.raise
unfolding drive_permits permitted
drive_permits-permitted g row = same (grid_at g row.pedal row.speed) row.raise
  where
    same : (n m : ℕ) → max n m ≡ max (min n n) m
    same n m = omega arith
