-- A row weighs its tick, charge, five signals and two outputs together, and the count of ticks keeps how many
-- were made and what their rows weigh, modulo 2^64. That ticks which are counted were made follows from
-- another thing: only a controller that makes a tick can raise the count.
use Rattle.std.specs.Prelude.{ℕ, ◌+◌}
use Rattle.std.specs.List.{sum}
use Rattle.eg_record.specs.declared.row.Row.{Row}

-- how many ticks were made, and the weights of their rows in all, both modulo 2^64
pub record TickCount : Type 0 where
  pub count : ℕ
  pub weights : ℕ

-- the weight of a row: its tick, charge, five signals, throttle and ignition
unfoldable pub weight_of : Row → ℕ
weight_of row = row.tick + row.charge + sum row.signals + row.throttle + row.ignition
