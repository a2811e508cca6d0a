-- The ramp (C95). All numbers are in tenths of Nm.
use Rattle.std.specs.Prelude.{ℕ, ◌-◌, ◌==◌, max, if◌then◌else◌}
use Rattle.eg_torque.specs.declared.ramp.TheConstants.{NO_RAMP}

-- C95; `before` is the permitted torque of the tick before
unfoldable pub ramped : (fall before demand : ℕ) → ℕ
ramped fall before demand = if fall == NO_RAMP then demand else max demand (before - fall)
