-- How a value moves toward a target (C1), and the estimate of a load (C6).
use Rattle.std.specs.Prelude.{ℕ, ◌+◌, ◌*◌, ◌-◌, ◌/◌, min, if◌then◌else◌, nat_le}

-- the quotient rounded up
abbrev pub quotient_up : ℕ → ℕ → ℕ
quotient_up a b = (a + (b - 1)) / b

-- C6, in tenths of Nm
abbrev pub estimate : ℕ → ℕ → ℕ
estimate kt load = min 65535 (quotient_up (load * kt) 1000)

-- C1
abbrev pub moved_toward : ℕ → ℕ → ℕ → ℕ
moved_toward now target most =
    if nat_le now target
    then (if nat_le (target - now) most then target else now + most)
    else (if nat_le (now - target) most then target else now - most)
