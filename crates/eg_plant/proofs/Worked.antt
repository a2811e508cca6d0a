-- The reference plant over its first ticks, computed from the definitions.
use Rattle.std.proofs.Common.{◌≡◌, ℕ, true, false, List, [], ◌∷◌, ◌++◌, refl}
use Rattle.std.specs.Prelude.{None, Some, replicate}
use Rattle.eg_num.specs.Arithmetic.{estimate}
use Rattle.eg_num.specs.Interpolation.{value_at}
use Rattle.eg_plant.specs.Gasoline.{Gasoline, at_rest, next_plate, next_charge, torque_of, gasoline_step}
use Rattle.eg_plant.specs.PlantParts.{PlantParts}

-- every definition of the plant
unfoldable plant : ℕ
unfolding at_rest next_plate next_charge torque_of gasoline_step value_at
plant = 0

-- the plant of the reference calibration
abbrev reference : PlantParts
reference = record {
  slew = 50;
  fill = 40;
  charge = record { axis = 0 ∷ 200 ∷ 1000 ∷ []; values = 40 ∷ 300 ∷ 1000 ∷ [] };
  kt = 2500;
}

-- what it has come to after steps with these commands to plate and ignition, newest first, the stages being on
unfoldable after : List ℕ → Gasoline
after [] = at_rest reference
after (command ∷ before) = gasoline_step reference (after before) command command true None

-- nothing is commanded at tick 0, and 1000 at each of a number of ticks after it
abbrev commanded : ℕ → List ℕ
commanded ticks = replicate ticks 1000 ++ 0 ∷ []

-- at rest the charge is that of the closed plate, and it gives no torque
at_rest-reference : at_rest reference ≡ record { plate = 0; charge = 40; torque = 0 }
unfolding plant
at_rest-reference = refl

-- the plate opens by 50 a tick, and the charge follows the plate of the tick before by at most 40
after-tick_1 : after (commanded 1) ≡ record { plate = 50; charge = 40; torque = 100 }
unfolding plant after
after-tick_1 = refl

after-tick_4 : after (commanded 4) ≡ record { plate = 200; charge = 160; torque = 400 }
unfolding plant after
after-tick_4 = refl

estimate-tick_4 : estimate 2500 160 ≡ 400
estimate-tick_4 = refl

after-tick_5 : after (commanded 5) ≡ record { plate = 250; charge = 200; torque = 500 }
unfolding plant after
after-tick_5 = refl

after-tick_9 : after (commanded 9) ≡ record { plate = 450; charge = 360; torque = 900 }
unfolding plant after
after-tick_9 = refl

-- commands above 1000 count as 1000
next_plate-above : next_plate reference 990 65535 true None ≡ 1000
unfolding plant
next_plate-above = refl

torque_of-above : torque_of 2500 160 65535 true ≡ 400
unfolding plant
torque_of-above = refl

-- torque is rounded down, and its estimate up
torque_of-rounded : torque_of 2500 333 500 true ≡ 416
unfolding plant
torque_of-rounded = refl

estimate-rounded : estimate 2500 333 ≡ 833
estimate-rounded = refl

-- while the stages are off the plate closes, whatever is commanded, and no charge gives torque
gasoline_step-off : gasoline_step reference (after (commanded 9)) 1000 1000 false None ≡ record { plate = 400; charge = 400; torque = 0 }
unfolding plant after
gasoline_step-off = refl

-- a plate that is held stands where it is held, also while the stages are off
gasoline_step-held : gasoline_step reference (after (commanded 9)) 0 0 false (Some 900) ≡ record { plate = 900; charge = 400; torque = 0 }
unfolding plant after
gasoline_step-held = refl
