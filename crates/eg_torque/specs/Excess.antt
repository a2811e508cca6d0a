-- When a torque is an excess (C7). All numbers are in tenths of Nm.
use Rattle.std.specs.Prelude.{ℕ, ◌+◌, Bool, nat_lt}

-- C7
unfoldable pub is_excess : ℕ → ℕ → ℕ → Bool
is_excess estimate permitted threshold = nat_lt (permitted + threshold) estimate
