-- Each tick that is made is counted, with the weight of its row, also where memory ran out. Rows stand here
-- in the order in which their ticks are made.
use Rattle.std.specs.Prelude.{◌≡◌, ℕ, ◌+◌, ◌%◌, ◌^◌, ◌≤◌, List, map, take, length, Result, Ok, Err}
use Rattle.std.specs.List.{sum}
use Rattle.eg_record.specs.declared.row.Row.{Row}
use Rattle.eg_tick.specs.Weights.{TickCount, weight_of}

-- the count after these rows were made: a tick more for each row, and the weight of each
abbrev pub count_with : TickCount → List Row → TickCount
count_with was rows = record {
  count = (was.count + length rows) % 2 ^ 64;
  weights = (was.weights + sum (map weight_of rows)) % 2 ^ 64;
}

-- Memory ran out before these rows were made, between two of them, or after the last: the first of them were
-- made, none or all perhaps, and are counted.
pub record RanOutAmong (rows : List Row) (was is : TickCount) : Type 0 where
  pub made : ℕ
  pub most : made ≤ length rows
  pub counted : is ≡ count_with was (take made rows)

-- on Ok these rows were made and counted; on Err memory ran out
abbrev pub AreCounted : {T E : Type 0} → List Row → TickCount → TickCount → Result T E → Type 0
AreCounted rows was is (Ok value) = is ≡ count_with was rows
AreCounted rows was is (Err e) = RanOutAmong rows was is
