-- Worked numbers of a small permit table, of the ramp, of the estimate and of the excess, computed from the definitions.
use Rattle.std.proofs.Common.{◌≡◌, [], ◌∷◌, true, false, refl}
use Rattle.eg_num.specs.Arithmetic.{estimate}
use Rattle.eg_num.specs.Interpolation.{Grid, grid_at, value_at}
use Rattle.eg_torque.specs.Permit.{permitted}
use Rattle.eg_torque.specs.Ramp.{ramped}
use Rattle.eg_torque.specs.declared.ramp.TheConstants.{NO_RAMP}
use Rattle.eg_torque.specs.Excess.{is_excess}

-- pedals 0, 500, 1000; speeds 800, 3000, 6000
abbrev small : Grid
small = record {
  rows = 0 ∷ 500 ∷ 1000 ∷ [];
  columns = 800 ∷ 3000 ∷ 6000 ∷ [];
  values = 200 ∷ 100 ∷ 0 ∷ 1000 ∷ 1200 ∷ 900 ∷ 2000 ∷ 2400 ∷ 1800 ∷ [];
}

-- at a crossing
at_crossing : grid_at small 0 800 ≡ 200
unfolding value_at
at_crossing = refl

-- between two speeds
between_speeds : grid_at small 0 1900 ≡ 150
unfolding value_at
between_speeds = refl

-- between two pedals
between_pedals : grid_at small 250 800 ≡ 600
unfolding value_at
between_pedals = refl

-- between both
between_both : grid_at small 750 1900 ≡ 1650
unfolding value_at
between_both = refl

-- past both ends the corner
before_both_ends : grid_at small 0 0 ≡ 200
unfolding value_at
before_both_ends = refl

past_both_ends : grid_at small 1200 7000 ≡ 1800
unfolding value_at
past_both_ends = refl

-- the lower of the values at two speeds
lower_of_two : permitted small 750 1900 800 0 ≡ 1500
unfolding permitted value_at
lower_of_two = refl

-- a raise above it, and one below it
raised : permitted small 750 1900 800 1600 ≡ 1600
unfolding permitted value_at
raised = refl

not_raised : permitted small 750 1900 800 1400 ≡ 1500
unfolding permitted value_at
not_raised = refl

-- down the ramp, 50 from 1000 to a demand of 200
down_the_ramp : ramped 50 1000 200 ≡ 950
unfolding ramped
down_the_ramp = refl

-- at the first tick of a span, before which it is 0, the demand itself
first_tick : ramped 50 0 200 ≡ 200
unfolding ramped
first_tick = refl

-- without a ramp the demand, also where 65535 was permitted before
without_ramp : ramped NO_RAMP 65535 200 ≡ 200
unfolding ramped
without_ramp = refl

-- a fall of 0 keeps what was permitted, and one of 10000 gives the demand where that is more
kept : ramped 0 1000 200 ≡ 1000
unfolding ramped
kept = refl

fallen_at_once : ramped 10000 1000 200 ≡ 200
unfolding ramped
fallen_at_once = refl

-- a demand above what was permitted is permitted at once
demand_above : ramped 50 1000 1800 ≡ 1800
unfolding ramped
demand_above = refl

-- the estimate is rounded up, and held in one word
whole_estimate : estimate 2500 160 ≡ 400
whole_estimate = refl

rounded_estimate : estimate 2501 160 ≡ 401
rounded_estimate = refl

next_estimate : estimate 2500 200 ≡ 500
next_estimate = refl

greatest_estimate : estimate 2500 65535 ≡ 65535
greatest_estimate = refl

-- a tie is no excess
tie : is_excess 500 400 100 ≡ false
unfolding is_excess
tie = refl

one_more : is_excess 501 400 100 ≡ true
unfolding is_excess
one_more = refl
