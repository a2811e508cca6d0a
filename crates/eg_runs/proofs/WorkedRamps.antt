-- Runs with a ramp, computed from the definitions.
use Rattle.std.proofs.Common.{◌≡◌, true, false, ◌∷◌, ◌++◌, map, replicate, Some, None, refl}
use Rattle.eg_values.specs.Excess.{least_permitted, greatest_permitted, ramp_ticks}
use Rattle.eg_record.specs.declared.watch.Watch.TheVariants.{Torque}
use Rattle.eg_record.specs.Excess.{full_excess}
use Rattle.eg_model.specs.Examples.{idle, full, follow, run_of, moments_in_time, rows_in_time, report_on, reported}
use Rattle.eg_model.proofs.WholeModel.{whole_model}
use Rattle.eg_laws.specs.Examples.{ramped_parts}
use Rattle.eg_laws.specs.Ramps.{is_on_ramp}
use Rattle.eg_runs.specs.Ramps.{ramped_run, let_go, down_the_ramp, steepest, raised_once}
use Rattle.eg_runs.specs.WorkedMisses.{missed_from}

-- ---- the pedal is let go ----

pub let_go-demand : map (λ m. m.limit) (moments_in_time (run_of idle None let_go)) ≡ replicate 10 1000 ++ replicate 25 200
unfolding whole_model
let_go-demand = refl

pub let_go-limits : map (λ m. m.limit) (moments_in_time (ramped_run idle None let_go))
    ≡ replicate 10 1000 ++ (down_the_ramp ++ replicate 10 200)
unfolding whole_model
let_go-limits = refl

pub let_go-signals : map (λ m. m.signals.permitted) (moments_in_time (ramped_run idle None let_go))
    ≡ replicate 10 1000 ++ (down_the_ramp ++ replicate 10 200)
unfolding whole_model
let_go-signals = refl

pub let_go-cut : report_on (run_of follow None let_go) ≡ reported (Some (Torque, 14)) (Some 15) None (Some 14)
unfolding whole_model
let_go-cut = refl

pub let_go-uncut : report_on (ramped_run follow None let_go) ≡ reported None None None None
unfolding whole_model
let_go-uncut = refl

-- ---- the longest ramp ----

pub steepest-ticks : ramp_ticks ramped_parts.rules ≡ Some 48
unfolding ramp_ticks greatest_permitted least_permitted
steepest-ticks = refl

pub steepest-above : map (is_on_ramp ramped_parts) (rows_in_time (ramped_run idle None steepest))
    ≡ false ∷ replicate 47 true ++ replicate 2 false
unfolding whole_model is_on_ramp
steepest-above = refl

-- ---- level 2 misses the tick from which permitted torque comes down ----

pub missed_rise-excesses : map (full_excess 2500 200) (rows_in_time (ramped_run full (missed_from 4 0) raised_once))
    ≡ replicate 30 false
unfolding whole_model
missed_rise-excesses = refl

pub missed_rise-uncut : report_on (ramped_run full None raised_once) ≡ reported None None None None
unfolding whole_model
missed_rise-uncut = refl

pub missed_rise-cut : report_on (ramped_run full (missed_from 4 0) raised_once) ≡ reported (Some (Torque, 9)) (Some 10) None None
unfolding whole_model
missed_rise-cut = refl
