-- The greatest throttles that never cut, computed from the definitions.
use Rattle.std.proofs.Common.{◌≡◌, ◌+◌, Some, None, refl, arith}
use Rattle.std.specs.Prelude.{replicate}
use Rattle.eg_num.specs.Arithmetic.{estimate}
use Rattle.eg_num.specs.Drive.{driven}
use Rattle.eg_num.specs.Interpolation.{value_at}
use Rattle.eg_plant.specs.declared.engine_kind.EngineKind.TheVariants.{Gasoline, Diesel}
use Rattle.eg_values.specs.Excess.{least_permitted}
use Rattle.eg_values.specs.Reference.{reference_parts}
use Rattle.eg_record.specs.declared.watch.Watch.TheVariants as found
use Rattle.eg_model.specs.Examples.{run_of, report_on, reported}
use Rattle.eg_model.proofs.WholeModel.{whole_model}
use Rattle.eg_laws.specs.NeverCuts.{charge_up_to, load_up_to, IsPermittedUpTo}
use Rattle.eg_runs.specs.DieselRuns.{diesel_report}
use Rattle.eg_runs.specs.Throttles.{throttle_of}
use Rattle.eg_runs.proofs.WorkedDiesel.{whole_diesel}

permits : least_permitted reference_parts.rules.permit + reference_parts.rules.threshold ≡ 200
unfolding least_permitted
permits = refl

pub throttle-within : IsPermittedUpTo Gasoline reference_parts 31
throttle-within = let p = permits in omega (arith, p, e)
  where
    e : estimate reference_parts.rules.kt (load_up_to Gasoline reference_parts.plant 31) ≡ 200
    e = unfold load_up_to charge_up_to value_at in refl

pub throttle-beyond : ¬ IsPermittedUpTo Gasoline reference_parts 32
throttle-beyond l = let p = permits in omega (arith, p, e, l)
  where
    e : estimate reference_parts.rules.kt (load_up_to Gasoline reference_parts.plant 32) ≡ 203
    e = unfold load_up_to charge_up_to value_at in refl

pub throttle-uncut : report_on (run_of (throttle_of 31) None (replicate 30 (driven 0 6000 0))) ≡ reported None None None None
unfolding whole_model
throttle-uncut = refl

pub throttle-cut : report_on (run_of (throttle_of 32) None (replicate 15 (driven 0 6000 0)))
    ≡ reported (Some (found.Torque, 7)) (Some 8) None None
unfolding whole_model
throttle-cut = refl

-- ---- of the diesel engine ----

pub diesel_throttle-within : IsPermittedUpTo Diesel reference_parts 80
diesel_throttle-within = let p = permits in omega (arith, p, e)
  where
    e : estimate reference_parts.rules.kt (load_up_to Diesel reference_parts.plant 80) ≡ 200
    e = unfold load_up_to charge_up_to value_at in refl

pub diesel_throttle-beyond : ¬ IsPermittedUpTo Diesel reference_parts 81
diesel_throttle-beyond l = let p = permits in omega (arith, p, e, l)
  where
    e : estimate reference_parts.rules.kt (load_up_to Diesel reference_parts.plant 81) ≡ 203
    e = unfold load_up_to charge_up_to value_at in refl

pub diesel_throttle-uncut : diesel_report (run_of (throttle_of 80) None (replicate 30 (driven 0 6000 0)))
    ≡ reported None None None None
unfolding whole_diesel
diesel_throttle-uncut = refl

pub diesel_throttle-cut : diesel_report (run_of (throttle_of 81) None (replicate 15 (driven 0 6000 0)))
    ≡ reported (Some (found.Torque, 6)) (Some 7) None None
unfolding whole_diesel
diesel_throttle-cut = refl
