-- How long an excess can last by a calibration, in ticks (C65, C96, C103), and how great it can be, in
-- tenths of Nm (C77).
use Rattle.std.specs.Prelude.{◌≡◌, ◌⊎◌, ℕ, ◌+◌, ◌-◌, ◌*◌, ◌/◌, ◌==◌, if◌then◌else◌, Option, Some, None, length, max, min, take}
use Rattle.std.specs.List.{fold}
use Rattle.eg_num.specs.Arithmetic.{quotient_up}
use Rattle.eg_num.specs.Interpolation.{Grid, cell}
use Rattle.eg_torque.specs.declared.ramp.TheConstants.{NO_RAMP}
use Rattle.eg_plant.specs.PlantParts.{PlantParts}
use Rattle.eg_answer.specs.Times.{feeds_to_confirm, reaction_of, HasLapseBound, longest_missed_of}
use Rattle.eg_answer.specs.declared.rules.Rules.{Rules}
use Rattle.eg_values.specs.Calibration.{CalibrationParts}

-- D
unfoldable pub ticks_to_confirm : CalibrationParts → ℕ
ticks_to_confirm cal = feeds_to_confirm cal.rules.torque

-- the number of `stretch`: D - 1 ticks before the excess is confirmed, and R from the tick that confirms it
unfoldable pub longest_stretch : CalibrationParts → ℕ
longest_stretch cal = ticks_to_confirm cal - 1 + reaction_of cal.times

-- the torque of the greatest charge at full ignition, rounded down
unfoldable pub greatest_torque : PlantParts → ℕ
greatest_torque plant = fold max 0 plant.charge.values * plant.kt / 1000

-- The least value of the table's first row: no row lies below the one before it (C4), and what lies between
-- two values isn't below both.
unfoldable pub least_permitted : Grid → ℕ
least_permitted permit = fold min (cell permit 0 0) (take (length permit.columns) permit.values)

-- the greatest number of a permit table
unfoldable pub greatest_permitted : Grid → ℕ
greatest_permitted permit = fold max 0 permit.values

-- the number of `ramp` (C96): 0 without a ramp, and none if the ramp never comes down
unfoldable pub ramp_ticks : Rules → Option ℕ
ramp_ticks rules =
    if rules.fall == NO_RAMP then Some 0
    else if rules.fall == 0 then None
    else Some (quotient_up (greatest_permitted rules.permit - least_permitted rules.permit) rules.fall)

-- the number of `peak` (C77)
unfoldable pub greatest_excess : CalibrationParts → ℕ
greatest_excess cal = greatest_torque cal.plant - (least_permitted cal.rules.permit + cal.rules.threshold)

-- The bound for lapses exists (C71): there is no ramp, since with one level 2's permitted torque stands too
-- high after a lapse, and the bound's inequality holds.
pub record BoundsLapses (cal : CalibrationParts) : Type 0 where
  pub no_ramp : cal.rules.fall ≡ NO_RAMP
  pub bound : HasLapseBound cal.rules.torque cal.times

-- C103 gives a number: there is no ramp, the ramp never comes down, or one wrong verdict confirms.
abbrev pub BoundsMissed : CalibrationParts → Type 0
BoundsMissed cal =
    ((cal.rules.fall ≡ NO_RAMP) ⊎ (cal.rules.fall ≡ 0)) ⊎ (feeds_to_confirm cal.times.weights ≡ 1)

-- the number of `missed`, if `BoundsMissed` holds
unfoldable pub longest_missed : CalibrationParts → ℕ
longest_missed cal = longest_missed_of cal.rules.torque cal.times
