-- A brake that is taken as pressed permits no more.
use Rattle.std.proofs.Common.{ℕ, ◌≤◌, Bool, true, false, arith}
use Rattle.eg_torque.proofs.PermitLemmas.{permitted-rises}
use Rattle.eg_sensor.specs.Readings.{used_pedal, checked_raise}
use Rattle.eg_sensor.specs.Brake.{gated}
use Rattle.eg_sensor.specs.declared.readings.Readings.{Readings}
use Rattle.eg_answer.specs.Formulas.{permitted_torque}
use Rattle.eg_answer.specs.Braking.{GatingPermitsNoMore}

nothing_below : (n : ℕ) → 0 ≤ n
nothing_below n = omega arith

-- a gated pedal is 0, limited or not
gated_pedal : (r : Readings) (limp : Bool) (n : ℕ) → used_pedal (gated r).pedal limp ≤ n
gated_pedal r true n = nothing_below n
gated_pedal r false n = nothing_below n

pub gating_permits_no_more : GatingPermitsNoMore
unfolding permitted_torque
gating_permits_no_more rules grid rows r limp =
    permitted-rises rules.permit grid rows _ _ _ _ _ _ (gated_pedal r limp _) (nothing_below (checked_raise r.raise r.raise_check))
