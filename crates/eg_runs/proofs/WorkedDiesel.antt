-- Runs of a diesel engine, computed from the definitions.
use Rattle.std.proofs.Common.{ℕ, ◌≡◌, [], ◌∷◌, ◌++◌, Some, None, refl}
use Rattle.std.specs.Prelude.{replicate}
use Rattle.eg_fault.specs.declared.class.Class.TheVariants.{Script, Plate}
use Rattle.eg_record.specs.declared.watch.Watch.TheVariants as found
use Rattle.eg_diesel.specs.Diesel.{at_rest, next_boost, quantity_of, diesel_step}
use Rattle.eg_model.specs.Engines.{diesel}
use Rattle.eg_model.specs.Examples.{idle, full, fault_from, bench_run, tested_run, reported}
use Rattle.eg_model.proofs.WholeModel.{whole_model}
use Rattle.eg_runs.specs.DieselRuns.{diesel_report, racks, quantities, torques, reset_at_6}

-- every definition of a run of a diesel engine
unfoldable pub whole_diesel : ℕ
unfolding whole_model at_rest next_boost quantity_of diesel_step diesel
whole_diesel = 0

pub diesel_at_full_throttle-report : diesel_report (bench_run full None 20)
    ≡ reported (Some (found.Torque, 8)) (Some 9) None (Some 8)
unfolding whole_diesel
diesel_at_full_throttle-report = refl

pub diesel_at_full_throttle-racks : racks (bench_run full None 11)
    ≡ 0 ∷ 50 ∷ 100 ∷ 150 ∷ 200 ∷ 250 ∷ 300 ∷ 350 ∷ 400 ∷ 350 ∷ 300 ∷ []
unfolding whole_diesel
diesel_at_full_throttle-racks = refl

pub diesel_at_full_throttle-quantities : quantities (bench_run full None 11)
    ≡ 0 ∷ 40 ∷ 92 ∷ 144 ∷ 196 ∷ 248 ∷ 300 ∷ 335 ∷ 370 ∷ 0 ∷ 0 ∷ []
unfolding whole_diesel
diesel_at_full_throttle-quantities = refl

pub diesel_at_full_throttle-torques : torques (bench_run full None 11)
    ≡ 0 ∷ 100 ∷ 230 ∷ 360 ∷ 490 ∷ 620 ∷ 750 ∷ 837 ∷ 925 ∷ 0 ∷ 0 ∷ []
unfolding whole_diesel
diesel_at_full_throttle-torques = refl

pub diesel_that_loses_a_load_track-is : diesel_report (bench_run full (fault_from 0 (Script 4 (0 ∷ []))) 20)
    ≡ reported (Some (found.Load, 6)) (Some 7) None None
unfolding whole_diesel
diesel_that_loses_a_load_track-is = refl

pub diesel_with_a_held_rack-racks : racks (bench_run idle (fault_from 2 (Plate 300)) 7)
    ≡ 0 ∷ 0 ∷ 300 ∷ 300 ∷ 300 ∷ 300 ∷ 300 ∷ []
unfolding whole_diesel
diesel_with_a_held_rack-racks = refl

pub diesel_with_a_held_rack-quantities : quantities (bench_run idle (fault_from 2 (Plate 300)) 7)
    ≡ 0 ∷ 0 ∷ 40 ∷ 92 ∷ 144 ∷ 196 ∷ 248 ∷ []
unfolding whole_diesel
diesel_with_a_held_rack-quantities = refl

pub diesel_with_a_held_rack-torques : torques (bench_run idle (fault_from 2 (Plate 300)) 7) ≡ replicate 7 0
unfolding whole_diesel
diesel_with_a_held_rack-torques = refl

pub diesel_across_a_reset-racks : racks (tested_run idle (fault_from 0 (Plate 300)) reset_at_6) ≡ replicate 19 300
unfolding whole_diesel
diesel_across_a_reset-racks = refl

pub diesel_across_a_reset-quantities : quantities (tested_run idle (fault_from 0 (Plate 300)) reset_at_6)
    ≡ 40 ∷ 92 ∷ 144 ∷ 196 ∷ 248 ∷ 300 ∷ (replicate 11 0 ++ 300 ∷ 300 ∷ [])
unfolding whole_diesel
diesel_across_a_reset-quantities = refl

pub diesel_across_a_reset-falling : racks (tested_run full None reset_at_6)
    ≡ 0 ∷ 50 ∷ 100 ∷ 150 ∷ 200 ∷ 250 ∷ 200 ∷ 150 ∷ 100 ∷ 50 ∷ (replicate 7 0 ++ 0 ∷ 50 ∷ [])
unfolding whole_diesel
diesel_across_a_reset-falling = refl
