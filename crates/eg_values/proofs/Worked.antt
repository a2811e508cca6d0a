-- Values of the reference calibration between the points of its tables, how long and how great an excess can be by it,
-- and how long a ramp takes, computed from the definitions.
use Rattle.std.proofs.Common.{◌≡◌, ℕ, [], ◌∷◌, refl}
use Rattle.std.specs.Prelude.{Option, Some, None}
use Rattle.eg_num.specs.Interpolation.{value_at, curve_at, row_at, grid_at}
use Rattle.eg_torque.specs.declared.ramp.TheConstants.{NO_RAMP}
use Rattle.eg_answer.specs.Times.{feeds_to_confirm, reaction_of}
use Rattle.eg_values.specs.Excess.{ticks_to_confirm, longest_stretch, greatest_torque, least_permitted, greatest_permitted, ramp_ticks, greatest_excess}
use Rattle.eg_values.specs.Reference.{reference_permit, reference_plant, reference_parts, reference_rules}

-- along the speeds first, in each of the two rows, and rounded down there (190.9 and 1018.1)
row-0 : row_at reference_permit 1000 0 ≡ 190
unfolding value_at
row-0 = refl

row-500 : row_at reference_permit 1000 1 ≡ 1018
unfolding value_at
row-500 = refl

-- then along the pedal, and rounded down again: rounded once alone it would be 356
between-both : grid_at reference_permit 100 1000 ≡ 355
unfolding value_at
between-both = refl

-- a charge is rounded down too (298.7)
charge-199 : curve_at reference_plant.charge 199 ≡ 298
unfolding value_at
charge-199 = refl

-- ---- how long and how great an excess can be ----

longest : longest_stretch reference_parts ≡ 38
unfolding longest_stretch ticks_to_confirm feeds_to_confirm reaction_of
longest = refl

-- the torque of a charge of 1000 is 2500; at 6000 rpm and pedal 0 nothing is permitted, and the threshold is 200
greatest : greatest_excess reference_parts ≡ 2300
unfolding greatest_excess greatest_torque least_permitted
greatest = refl

-- the torque of a charge is rounded down (202.5)
greatest_torque-81 : greatest_torque (record reference_plant { charge = record { axis = 0 ∷ 1000 ∷ []; values = 81 ∷ 40 ∷ [] } }) ≡ 202
unfolding greatest_torque
greatest_torque-81 = refl

-- the least of the first row stands anywhere in it
least_permitted-30 : least_permitted (record reference_permit { values = 200 ∷ 30 ∷ 50 ∷ 1000 ∷ 1200 ∷ 900 ∷ 2000 ∷ 2400 ∷ 1800 ∷ [] }) ≡ 30
unfolding least_permitted
least_permitted-30 = refl

-- ---- how long a ramp takes ----

greatest_permitted-2400 : greatest_permitted reference_permit ≡ 2400
unfolding greatest_permitted
greatest_permitted-2400 = refl

-- how many ticks the reference's ramp takes with this fall, from 2400 to 0
unfoldable takes : ℕ → Option ℕ
unfolding ramp_ticks greatest_permitted least_permitted
takes fall = ramp_ticks (record reference_rules { fall = fall })

-- 48 ticks of 50, and 32 of 75
takes-50 : takes 50 ≡ Some 48
unfolding takes
takes-50 = refl

takes-75 : takes 75 ≡ Some 32
unfolding takes
takes-75 = refl

-- the last tick may fall by less: 34 ticks of 70 make 2380
takes-70 : takes 70 ≡ Some 35
unfolding takes
takes-70 = refl

-- a ramp that never comes down, and none
takes-0 : takes 0 ≡ None
unfolding takes
takes-0 = refl

takes-none : takes NO_RAMP ≡ Some 0
unfolding takes
takes-none = refl
