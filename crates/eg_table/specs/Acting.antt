-- A fault has acted where it has an effect at some tick of the run: a flip at its onset alone, a lapse where
-- level 2 is left out.
use Rattle.std.specs.Prelude.{ℕ, ◌-◌, Bool, ◌&&◌, nat_le, Option, Some, None}
use Rattle.std.specs.List.{list_any, range_with_len}
use Rattle.eg_fault.specs.declared.class.Fault.{Fault}
use Rattle.eg_fault.specs.Faults.{has_effect}

-- whether a fault has an effect at a tick: never before its onset, and then as its class does
unfoldable pub acts_at : Fault → ℕ → Bool
acts_at fault tick = nat_le fault.onset tick && has_effect fault.class (tick - fault.onset)

-- whether a fault has an effect at some tick of a run of `ticks` ticks
unfoldable pub acts_within : Fault → (ticks : ℕ) → Bool
acts_within fault ticks = list_any (acts_at fault) (range_with_len 0 ticks)

-- the same of the fault of a run, where there is one
unfoldable pub has_acted : Option Fault → (ticks : ℕ) → Option Bool
has_acted None ticks = None
has_acted (Some fault) ticks = Some (acts_within fault ticks)
