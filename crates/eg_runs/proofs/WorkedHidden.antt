-- Runs under faults that aren't found, computed from the definitions.
use Rattle.std.proofs.Common.{◌≡◌, [], ◌∷◌, ◌++◌, Some, None, refl}
use Rattle.std.specs.Prelude.{negsuc, replicate}
use Rattle.eg_num.specs.Drive.{driven}
use Rattle.eg_fault.specs.declared.class.Class.TheVariants.{Script, Offset, Skip, Timing}
use Rattle.eg_record.specs.declared.watch.Watch.TheVariants as found
use Rattle.eg_model.specs.Examples.{idle, fault_from, run_of, bench_run, report_on, reported}
use Rattle.eg_model.proofs.WholeModel.{whole_model}
use Rattle.eg_runs.specs.PowerCycles.{cycle}

pub cut_off-hidden : report_on (bench_run idle (fault_from 0 (Offset 0 (negsuc 199))) 40) ≡ reported None None None None
unfolding whole_model
cut_off-hidden = refl

pub cut_off-shown : report_on (run_of idle (fault_from 0 (Offset 0 (negsuc 199))) (replicate 10 (driven 200 800 0)))
    ≡ reported (Some (found.Pedal, 4)) None None None
unfolding whole_model
cut_off-shown = refl

pub seldom-hidden : report_on (bench_run idle (fault_from 0 (Script 0 (1000 ∷ 0 ∷ 0 ∷ []))) 45) ≡ reported None None None None
unfolding whole_model
seldom-hidden = refl

pub seldom-shown : report_on (bench_run idle (fault_from 0 (Script 0 (1000 ∷ 1000 ∷ 0 ∷ []))) 15)
    ≡ reported (Some (found.Pedal, 7)) None None None
unfolding whole_model
seldom-shown = refl

pub skips-hidden : report_on (run_of idle (fault_from 0 (Skip 3)) (cycle 60 ++ cycle 60)) ≡ reported None None None None
unfolding whole_model
skips-hidden = refl

pub skips-shown : report_on (run_of idle (fault_from 0 (Skip 3)) (cycle 61)) ≡ reported (Some (found.Answers, 60)) None None None
unfolding whole_model
skips-shown = refl

pub moved-hidden : report_on (bench_run idle (fault_from 6 (Timing 7)) 45) ≡ reported None None None None
unfolding whole_model
moved-hidden = refl
