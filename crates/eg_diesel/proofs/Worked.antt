-- The diesel plant over the parts of the reference calibration, computed from the definitions.
use Rattle.std.proofs.Common.{◌≡◌, ℕ, true, false, List, [], ◌∷◌, ◌++◌, refl}
use Rattle.std.specs.Prelude.{None, Some, replicate}
use Rattle.eg_num.specs.Interpolation.{value_at}
use Rattle.eg_plant.specs.Gasoline.{next_plate, torque_of}
use Rattle.eg_plant.specs.PlantParts.{PlantParts}
use Rattle.eg_diesel.specs.Diesel.{Diesel, at_rest, next_rack, next_boost, quantity_of, diesel_step, shown_of}

-- every definition of the plant
unfoldable plant : ℕ
unfolding at_rest next_plate next_boost quantity_of torque_of diesel_step value_at
plant = 0

-- the plant of the reference calibration
abbrev reference : PlantParts
reference = record {
  slew = 50;
  fill = 40;
  charge = record { axis = 0 ∷ 200 ∷ 1000 ∷ []; values = 40 ∷ 300 ∷ 1000 ∷ [] };
  kt = 2500;
}

-- what it has come to after steps with these commands to plate and ignition, newest first, the stages being on
unfoldable after : List ℕ → Diesel
after [] = at_rest
after (command ∷ before) = diesel_step reference (after before) command command true None

-- nothing is commanded at tick 0, and 1000 at each of a number of ticks after it
abbrev commanded : ℕ → List ℕ
commanded ticks = replicate ticks 1000 ++ 0 ∷ []

-- an engine at rest stays at rest while nothing is commanded, however slow its rack and its boost are
at_rest-stays :
    diesel_step (record reference { slew = 1; fill = 1 }) at_rest 0 0 true None ≡
    record { rack = 0; boost = 0; quantity = 0; torque = 0 }
unfolding plant
at_rest-stays = refl

-- nothing is injected while nothing is commanded, though 40 would burn without boost
after-tick_0 : after (commanded 0) ≡ record { rack = 0; boost = 0; quantity = 0; torque = 0 }
unfolding plant after
after-tick_0 = refl

-- ---- both commands at 1000 from tick 1 on ----

-- the rack opens by 50 a tick; the boost is a tick behind it, so that no more than 40 burns
after-tick_1 : after (commanded 1) ≡ record { rack = 50; boost = 0; quantity = 40; torque = 100 }
unfolding plant after
after-tick_1 = refl

-- the boost rises by 40 a tick, and its smoke limit lies below the rack
after-tick_2 : after (commanded 2) ≡ record { rack = 100; boost = 40; quantity = 92; torque = 230 }
unfolding plant after
after-tick_2 = refl

after-tick_3 : after (commanded 3) ≡ record { rack = 150; boost = 80; quantity = 144; torque = 360 }
unfolding plant after
after-tick_3 = refl

after-tick_4 : after (commanded 4) ≡ record { rack = 200; boost = 120; quantity = 196; torque = 490 }
unfolding plant after
after-tick_4 = refl

-- At pedal 0 and 800 rpm 400 is the most that isn't an excess: the torque is above it from tick 4 on. Fed 1 at
-- each of the ticks 4 to 8, the counter of limit 5 confirms it at tick 8, and the stages are off at tick 9.
after-tick_8 : after (commanded 8) ≡ record { rack = 400; boost = 280; quantity = 370; torque = 925 }
unfolding plant after
after-tick_8 = refl

off-tick_9 : diesel_step reference (after (commanded 8)) 1000 1000 false None ≡ record { rack = 350; boost = 320; quantity = 0; torque = 0 }
unfolding plant after
off-tick_9 = refl

-- Where one load track reads 0, it is more than 50 from the other from tick 2 on. Fed 2 at each of the ticks 2
-- to 6, the counter of limit 10 confirms it at tick 6. So the stages are off at tick 7, after three ticks of
-- excess.
shown-tick_1 : shown_of (after (commanded 1)) ≡ record { position = 50; load_1 = 40; load_2 = 40; torque = 100 }
unfolding plant after
shown-tick_1 = refl

shown-tick_2 : shown_of (after (commanded 2)) ≡ record { position = 100; load_1 = 92; load_2 = 92; torque = 230 }
unfolding plant after
shown-tick_2 = refl

after-tick_6 : after (commanded 6) ≡ record { rack = 300; boost = 200; quantity = 300; torque = 750 }
unfolding plant after
after-tick_6 = refl

off-tick_7 : diesel_step reference (after (commanded 6)) 1000 1000 false None ≡ record { rack = 250; boost = 240; quantity = 0; torque = 0 }
unfolding plant after
off-tick_7 = refl

-- the rack is open at tick 20, the boost six ticks later; torque is rounded down
after-tick_25 : after (commanded 25) ≡ record { rack = 1000; boost = 960; quantity = 965; torque = 2412 }
unfolding plant after
after-tick_25 = refl

after-tick_26 : after (commanded 26) ≡ record { rack = 1000; boost = 1000; quantity = 1000; torque = 2500 }
unfolding plant after
after-tick_26 = refl

-- ---- one step more ----

-- commands above 1000 count as 1000
next_rack-above : next_rack reference 990 65535 true None ≡ 1000
unfolding plant
next_rack-above = refl

-- while the rack closes there is still boost, and the rack alone meters; half the ignition is half the torque
diesel_step-closing : diesel_step reference (after (commanded 8)) 0 500 true None ≡ record { rack = 350; boost = 320; quantity = 350; torque = 437 }
unfolding plant after
diesel_step-closing = refl

-- a rack that is held stands where it is held, whatever is commanded: open, no more is injected than burns ..
diesel_step-held_open : diesel_step reference (after (commanded 8)) 0 1000 true (Some 900) ≡ record { rack = 900; boost = 320; quantity = 405; torque = 1012 }
unfolding plant after
diesel_step-held_open = refl

-- .. and nearly closed, the quantity is cut at once
diesel_step-held_low : diesel_step reference (after (commanded 8)) 1000 1000 true (Some 100) ≡ record { rack = 100; boost = 320; quantity = 100; torque = 250 }
unfolding plant after
diesel_step-held_low = refl

-- also while the stages are off, and then nothing is injected
diesel_step-held_off : diesel_step reference (after (commanded 8)) 1000 1000 false (Some 900) ≡ record { rack = 900; boost = 320; quantity = 0; torque = 0 }
unfolding plant after
diesel_step-held_off = refl

-- from rest the boost follows a rack that is held a tick later
diesel_step-held_first : diesel_step reference at_rest 0 1000 true (Some 900) ≡ record { rack = 900; boost = 0; quantity = 40; torque = 100 }
unfolding plant
diesel_step-held_first = refl

diesel_step-held_second :
    diesel_step reference (diesel_step reference at_rest 0 1000 true (Some 900)) 0 1000 true (Some 900) ≡
    record { rack = 900; boost = 40; quantity = 92; torque = 230 }
unfolding plant
diesel_step-held_second = refl
