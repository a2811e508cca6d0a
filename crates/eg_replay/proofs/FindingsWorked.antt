-- Findings of a few ticks, and a line, computed from the definitions.
use Rattle.std.proofs.Common.{◌≡◌, ◌∷◌, [], ℕ, pos, negsuc, List, true, false, None, Some, refl}
use Rattle.std.specs.Prelude.{codes}
use Rattle.std.specs.Fmt.{digits}
use Rattle.eg_num.specs.declared.watches.Watches.{Watches}
use Rattle.eg_num.specs.Windows.{greatest_of, WeightParts}
use Rattle.eg_record.specs.Detection.{is_found, is_trip}
use Rattle.eg_record.specs.Margins.{greater_than}
use Rattle.eg_record.specs.Texts.{numbers_text, watch_name, names, found_text, at_text}
use Rattle.eg_replay.specs.declared.tick_signals.TickSignals.{TickSignals}
use Rattle.eg_replay.specs.Findings.{found_at, trip_at, lasting, longest, surplus_at, surplus_of, findings_of}
use Rattle.eg_replay.specs.Texts.{signal_numbers, signals_line, signals_lines, watch_line, surplus_text, pair_lines, last_lines, replay_text}

-- every definition that these need
unfoldable replayed : ℕ
unfolding greatest_of is_found is_trip greater_than watch_name names found_text at_text found_at trip_at lasting longest surplus_at surplus_of findings_of
    numbers_text signal_numbers signals_line signals_lines watch_line surplus_text pair_lines last_lines replay_text digits
replayed = 0

abbrev nothing : Watches
nothing = record { mirror = false; pedal = false; plate = false; load = false; speed = false; torque = false; answers = false; start = false }

-- a tick at which level 2 permits 200, with this estimate, and what is found at it; the plate weighs so much
abbrev tick : (actual excess plate : ℕ) → Watches → TickSignals
tick actual excess plate found = record {
  signals = 0 ∷ 200 ∷ actual ∷ excess ∷ 2 ∷ [];
  counters = record { pedal = 7; plate = plate; load = 0; speed = 0; torque = 9 };
  found = found;
}

-- The pedal is found at tick 1, which is no trip, and again at tick 3. Plate and torque are found at tick 2, so the surplus of tick 3 doesn't count. No excess at tick 2 breaks a stretch.
abbrev four : List TickSignals
four =
    tick 900 1 20 (record nothing { pedal = true; load = true }) ∷ tick 190 0 40 (record nothing { plate = true; torque = true })
    ∷ tick 450 1 30 (record nothing { pedal = true }) ∷ tick 300 1 10 nothing ∷ []

findings_of_four : findings_of four ≡ record {
  ticks = 4;
  pedal = Some 1;
  plate = Some 2;
  load = Some 3;
  speed = None;
  torque = Some 2;
  greatest = record { pedal = 7; plate = 40; load = 0; speed = 0; torque = 9 };
  trip = Some 2;
  stretch = 2;
  surplus = Some (pos 250);
}
unfolding replayed
findings_of_four = refl

-- the surplus at the trip itself counts, also one below 0; and of no ticks there is none
surplus_at_trip : (surplus_of (tick 900 0 0 nothing ∷ tick 190 0 0 (record nothing { speed = true }) ∷ []) ≡ Some (negsuc 9)) × (surplus_of [] ≡ None)
unfolding replayed
surplus_at_trip = (refl, refl)

lines_of_two : signals_lines (tick 190 0 40 (record nothing { plate = true; torque = true }) ∷ tick 300 1 10 nothing ∷ [])
    ≡ codes "0,0,200,300,1,2,7,10,0,0,9,-\n1,0,200,190,0,2,7,40,0,0,9,plate+torque\n"
unfolding replayed
lines_of_two = refl

weights : (limit : ℕ) → WeightParts
weights limit = record { up = 10; down = 1; limit = limit }

text_of_four : replay_text (weights 40) (weights 50) (findings_of four)
    ≡ codes "ticks 4\npedal at 1; greatest 7 of 40\nplate at 2; greatest 40 of 40\nload at 3; greatest 0 of 40\nspeed none; greatest 0 of 40\ntorque at 2; greatest 9 of 50\ntrip at 2\nstretch 2\nsurplus 250\n"
unfolding replayed weights
text_of_four = refl
