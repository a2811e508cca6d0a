-- Runs with a brake, computed from the definitions.
use Rattle.std.proofs.Common.{◌≡◌, true, false, [], ◌∷◌, map, Some, None, refl}
use Rattle.std.specs.Prelude.{pos, negsuc}
use Rattle.eg_fault.specs.declared.class.Class.TheVariants.{Script, Offset, Bus}
use Rattle.eg_record.specs.declared.watch.Watch.TheVariants as found
use Rattle.eg_model.specs.Examples.{idle, full, raise_reader, fault_from, run_of, report_on, reported, moments_in_time, rows_in_time}
use Rattle.eg_model.proofs.WholeModel.{whole_model}
use Rattle.eg_runs.specs.Braking.{braking_run, pressed, row_told, told_under, seen_under, held_throttle_drive}

pub braking_ticks-braked : rows_in_time (braking_run idle None (pressed true ∷ [])) ≡ row_told true 200 0 200 ∷ []
unfolding whole_model
braking_ticks-braked = refl

pub braking_ticks-one_contact : told_under (Script 8 (0 ∷ [])) true ≡ row_told true 200 0 200 ∷ []
unfolding whole_model
braking_ticks-one_contact = refl

pub braking_ticks-falsely : told_under (Script 9 (0 ∷ [])) false ≡ row_told false 2000 0 200 ∷ []
unfolding whole_model
braking_ticks-falsely = refl

pub braking_ticks-free : rows_in_time (braking_run idle None (pressed false ∷ []))
    ≡ row_told false 2000 1000 2000 ∷ []
unfolding whole_model
braking_ticks-free = refl

pub braking_ticks-without_brake : rows_in_time (run_of idle None (pressed true ∷ []))
    ≡ row_told true 2000 1000 2000 ∷ []
unfolding whole_model
braking_ticks-without_brake = refl

pub contacts_and_gates-first : seen_under (Offset 8 (pos 5)) false ≡ (0 ∷ 200 ∷ 100 ∷ 0 ∷ 0 ∷ []) ∷ []
unfolding whole_model
contacts_and_gates-first = refl

pub contacts_and_gates-second : seen_under (Offset 9 (pos 5)) true ≡ (0 ∷ 200 ∷ 100 ∷ 0 ∷ 0 ∷ []) ∷ []
unfolding whole_model
contacts_and_gates-second = refl

pub contacts_and_gates-second_free : seen_under (Offset 9 (pos 5)) false ≡ (1000 ∷ 2000 ∷ 100 ∷ 0 ∷ 0 ∷ []) ∷ []
unfolding whole_model
contacts_and_gates-second_free = refl

pub contacts_and_gates-second_down : seen_under (Offset 9 (negsuc 0)) false ≡ (0 ∷ 200 ∷ 100 ∷ 0 ∷ 0 ∷ []) ∷ []
unfolding whole_model
contacts_and_gates-second_down = refl

pub contacts_and_gates-track : seen_under (Script 1 (500 ∷ [])) true ≡ (0 ∷ 200 ∷ 100 ∷ 0 ∷ 0 ∷ []) ∷ []
unfolding whole_model
contacts_and_gates-track = refl

pub contacts_and_gates-bus : map (λ m. m.world.throttle) (moments_in_time
    (braking_run raise_reader (fault_from 0 (Bus 1)) (pressed true ∷ []))) ≡ 0 ∷ []
unfolding whole_model
contacts_and_gates-bus = refl

pub contacts_and_gates-bus_free : map (λ m. m.world.throttle) (moments_in_time
    (braking_run raise_reader (fault_from 0 (Bus 1)) (pressed false ∷ []))) ≡ 601 ∷ []
unfolding whole_model
contacts_and_gates-bus_free = refl

pub held_throttle_run-cut : report_on (braking_run full None held_throttle_drive)
    ≡ reported (Some (found.Torque, 24)) (Some 25) None (Some 24)
unfolding whole_model
held_throttle_run-cut = refl

pub held_throttle_run-one_contact : report_on (braking_run full (fault_from 0 (Script 8 (0 ∷ []))) held_throttle_drive)
    ≡ reported (Some (found.Torque, 24)) (Some 25) None (Some 24)
unfolding whole_model
held_throttle_run-one_contact = refl

pub held_throttle_run-without_brake : report_on (run_of full None held_throttle_drive) ≡ reported None None None None
unfolding whole_model
held_throttle_run-without_brake = refl
