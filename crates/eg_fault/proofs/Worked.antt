-- What faults do at a few ticks, computed from the definitions. Each has its onset at tick 10.
use Rattle.std.proofs.Common.{◌≡◌, ℕ, true, false, [], ◌∷◌, refl}
use Rattle.std.specs.Prelude.{pos, negsuc, Some, None}
use Rattle.eg_answer.specs.Periods.{asked, is_send_tick, period_of, place_of}
use Rattle.eg_answer.specs.Times.{TimeParts}
use Rattle.eg_sensor.specs.Brake.{sound_contacts}
use Rattle.eg_fault.specs.Effects.{Effects, no_effects, readings_under, contacts_under, sends_in, sends_at, asked_in, asked_at}
use Rattle.eg_fault.specs.Faults.{offset_by, in_turn, truth_in_turn, is_left_out, effects_of, effects}
use Rattle.eg_fault.specs.declared.class.Class.{Class}
use Rattle.eg_fault.specs.declared.class.Class.TheVariants.{Script, Flip, Timing, Wild, Path1Closed, PathOpen, Lapse}

-- every definition of faults
unfoldable faults : ℕ
unfolding no_effects readings_under contacts_under sends_in sends_at asked_in asked_at asked is_send_tick period_of place_of
    offset_by in_turn truth_in_turn is_left_out effects_of effects
faults = 0

-- a class that acts from tick 10 on, at a tick
abbrev under : Class → ℕ → Effects
under class tick = effects (Some (record { onset = 10; class = class })) tick

-- a reading is cut at both ends
offset_by-most : offset_by (pos 10) 65530 ≡ 65535
unfolding faults
offset_by-most = refl

offset_by-least : offset_by (negsuc 9) 5 ≡ 0
unfolding faults
offset_by-least = refl

offset_by-down : offset_by (negsuc 9) 25 ≡ 15
unfolding faults
offset_by-down = refl

-- a script counts the ticks since the onset

script-before : (under (Script 4 (7 ∷ 8 ∷ 9 ∷ [])) 9).track 4 500 ≡ 500
unfolding faults
script-before = refl

script-onset : (under (Script 4 (7 ∷ 8 ∷ 9 ∷ [])) 10).track 4 500 ≡ 7
unfolding faults
script-onset = refl

script-again : (under (Script 4 (7 ∷ 8 ∷ 9 ∷ [])) 14).track 4 500 ≡ 8
unfolding faults
script-again = refl

script-other : (under (Script 4 (7 ∷ 8 ∷ 9 ∷ [])) 14).track 5 500 ≡ 500
unfolding faults
script-other = refl

-- the contacts of the brake are tracks 8 and 9

contact-1 : contacts_under (under (Script 8 (7 ∷ [])) 10) (sound_contacts true) ≡ 7 ∷ 0 ∷ []
unfolding faults
contact-1 = refl

contact-2 : contacts_under (under (Script 9 (7 ∷ [])) 10) (sound_contacts true) ≡ 1 ∷ 7 ∷ []
unfolding faults
contact-2 = refl

contact-others : contacts_under (under (Script 7 (7 ∷ [])) 10) (sound_contacts false) ≡ 0 ∷ 1 ∷ []
unfolding faults
contact-others = refl

-- a flip comes at the onset alone
flip-onset : (under (Flip 31 4) 10).flip ≡ Some (31, 4)
unfolding faults
flip-onset = refl

flip-later : (under (Flip 31 4) 11).flip ≡ None
unfolding faults
flip-later = refl

-- a lapse comes once, or again and again
lapse-once : (under (Lapse (0 ∷ 3 ∷ []) 0) 15).ran 0 ≡ true
unfolding faults
lapse-once = refl

lapse-again : (under (Lapse (0 ∷ 3 ∷ []) 5) 15).ran 0 ≡ false
unfolding faults
lapse-again = refl

-- a period of 10 ticks, whose usual send tick is 5
abbrev times : TimeParts
times = record { period = 10; first = 4; last = 7; send = 5; weights = record { up = 3; down = 1; limit = 9 } }

sends-before : sends_at (under (Timing 2) 5) times 5 ≡ true
unfolding faults
sends-before = refl

sends-moved : sends_at (under (Timing 2) 12) times 12 ≡ true
unfolding faults
sends-moved = refl

sends-usual : sends_at (under (Timing 2) 15) times 15 ≡ false
unfolding faults
sends-usual = refl

-- a wild monitoring module asks its own questions, modulo the count of questions
wild-asked : asked_at (under (Wild (3 ∷ 1 ∷ 70 ∷ []) (false ∷ true ∷ [])) 15) times 4 15 ≡ 2
unfolding faults
wild-asked = refl

wild-opens : (under (Wild (3 ∷ 1 ∷ 70 ∷ []) (false ∷ true ∷ [])) 15).opens ≡ true
unfolding faults
wild-opens = refl

-- a path that is closed conducts though its latch is open, the other doesn't
path1-latched : (under Path1Closed 10).conducts 1 true ≡ true
unfolding faults
path1-latched = refl

path2-latched : (under Path1Closed 10).conducts 2 true ≡ false
unfolding faults
path2-latched = refl

path-broken : (under (PathOpen 2) 10).conducts 2 false ≡ false
unfolding faults
path-broken = refl
