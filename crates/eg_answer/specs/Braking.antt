-- What a brake that is taken as pressed does to the torque that level 2 permits.
use Rattle.std.specs.Prelude.{◌≤◌, Bool}
use Rattle.eg_num.specs.Interpolation.{IsGrid}
use Rattle.eg_torque.specs.Permit.{DoesNotFall}
use Rattle.eg_sensor.specs.Readings.{used_pedal}
use Rattle.eg_sensor.specs.Brake.{gated}
use Rattle.eg_sensor.specs.declared.readings.Readings.{Readings}
use Rattle.eg_answer.specs.declared.rules.Rules.{Rules}
use Rattle.eg_answer.specs.Formulas.{permitted_torque}

-- Gated readings permit no more than the readings that they were made of. So a brake that is taken as pressed
-- while nobody brakes never permits more.
abbrev pub GatingPermitsNoMore : Type 0
GatingPermitsNoMore = (rules : Rules) → IsGrid rules.permit → DoesNotFall rules.permit →
    (r : Readings) (limp : Bool) →
    permitted_torque rules (gated r) (used_pedal (gated r).pedal limp)
    ≤ permitted_torque rules r (used_pedal r.pedal limp)
