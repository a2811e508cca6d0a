-- Runs with several power cycles, computed from the definitions.
use Rattle.std.proofs.Common.{◌≡◌, true, false, not, [], ◌∷◌, ◌++◌, map, replicate, Some, None, refl}
use Rattle.eg_answer.specs.declared.marks.AnswerMark.TheVariants.{Good, Bad}
use Rattle.eg_answer.specs.declared.marks.Verdict.TheVariants.{Wrong}
use Rattle.eg_fault.specs.declared.class.Class.TheVariants.{Script, Skip, Flip, Halt, Timing, Wild, Path1Closed, PathOpen, Lapse}
use Rattle.eg_record.specs.Excess.{true_excess}
use Rattle.eg_record.specs.declared.watch.Watch.TheVariants as found
use Rattle.eg_word.specs.declared.registers.Trap.TheVariants as trapped
use Rattle.eg_model.specs.Examples.{idle, full, fault_from, run_of, tested_run, report_on, reported, moments_in_time, verdicts_of, stages_of}
use Rattle.eg_model.proofs.WholeModel.{whole_model}
use Rattle.eg_runs.specs.PowerCycles.{cycle, rest, trapping_run, excess_goes_on, ticks_where, sent_in, is_trapped, traps_of, short_report}

pub test_that_passes-report : report_on (run_of idle None (cycle 40))
    ≡ reported None None None None
unfolding whole_model is_trapped
test_that_passes-report = refl

pub test_that_passes-path1 : map (λ m. m.path1) (moments_in_time (run_of idle None (cycle 40)))
    ≡ replicate 30 true ++ false ∷ replicate 9 true
unfolding whole_model is_trapped
test_that_passes-path1 = refl

pub test_that_passes-path2 : map (λ m. m.path2) (moments_in_time (run_of idle None (cycle 40)))
    ≡ replicate 30 true ++ false ∷ replicate 9 true
unfolding whole_model is_trapped
test_that_passes-path2 = refl

pub test_that_passes-stages : stages_of (run_of idle None (cycle 40))
    ≡ replicate 31 false ++ replicate 9 true
unfolding whole_model is_trapped
test_that_passes-stages = refl

pub test_that_passes-verdicts : verdicts_of (run_of idle None (cycle 40))
    ≡ (9, Some Wrong) ∷ (19, Some Wrong) ∷ (29, Some Wrong) ∷ []
unfolding whole_model is_trapped
test_that_passes-verdicts = refl

pub test_that_passes-answers : sent_in (run_of idle None (cycle 40))
    ≡ (36, Good) ∷ []
unfolding whole_model is_trapped
test_that_passes-answers = refl

pub test_that_fails : report_on (run_of idle (fault_from 0 Path1Closed) (cycle 40))
    ≡ reported (Some (found.Start, 30)) (Some 31) None None
unfolding whole_model is_trapped
test_that_fails = refl

pub full_run_with_a_reset-report : report_on (run_of full None (rest 20 ++ cycle 50))
    ≡ reported (Some (found.Torque, 9)) (Some 10) None (Some 9)
unfolding whole_model is_trapped
full_run_with_a_reset-report = refl

pub full_run_with_a_reset-stages : stages_of (run_of full None (rest 20 ++ cycle 50))
    ≡ replicate 10 true ++ replicate 41 false ++ replicate 10 true ++ replicate 9 false
unfolding whole_model is_trapped
full_run_with_a_reset-stages = refl

pub full_run_with_a_reset-found : ticks_where (λ row. row.found.torque) (run_of full None (rest 20 ++ cycle 50))
    ≡ 9 ∷ 60 ∷ []
unfolding whole_model is_trapped
full_run_with_a_reset-found = refl

pub test_that_is_begun_anew-report : report_on (run_of idle None (cycle 20 ++ cycle 40))
    ≡ reported None None None None
unfolding whole_model is_trapped
test_that_is_begun_anew-report = refl

pub test_that_is_begun_anew-stages : stages_of (run_of idle None (cycle 20 ++ cycle 40))
    ≡ replicate 51 false ++ replicate 9 true
unfolding whole_model is_trapped
test_that_is_begun_anew-stages = refl

pub resets_near_a_test-during : ticks_where (λ row. row.on) (tested_run idle None (cycle 4 ++ cycle 13))
    ≡ 15 ∷ 16 ∷ []
unfolding whole_model is_trapped
resets_near_a_test-during = refl

pub resets_near_a_test-begins : ticks_where (λ row. row.fresh) (tested_run idle None (cycle 4 ++ cycle 13))
    ≡ 0 ∷ 4 ∷ 15 ∷ []
unfolding whole_model is_trapped
resets_near_a_test-begins = refl

pub resets_near_a_test-after : ticks_where (λ row. not row.testing) (tested_run idle None (cycle 11 ++ cycle 13))
    ≡ 22 ∷ 23 ∷ []
unfolding whole_model is_trapped
resets_near_a_test-after = refl

pub resets_near_a_test-after_begins : ticks_where (λ row. row.fresh) (tested_run idle None (cycle 11 ++ cycle 13))
    ≡ 0 ∷ 11 ∷ 22 ∷ []
unfolding whole_model is_trapped
resets_near_a_test-after_begins = refl

pub resets_near_a_test-at_end : ticks_where (λ row. row.fresh) (tested_run idle None (cycle 10 ++ cycle 13))
    ≡ 0 ∷ 10 ∷ 21 ∷ []
unfolding whole_model is_trapped
resets_near_a_test-at_end = refl

pub resets_near_a_test-at_end_path1 : ticks_where (λ row. not row.path1) (tested_run idle None (cycle 10 ++ cycle 13))
    ≡ 20 ∷ []
unfolding whole_model is_trapped
resets_near_a_test-at_end_path1 = refl

pub test_that_is_cut : report_on (tested_run idle None (cycle 10))
    ≡ short_report None None None None
unfolding whole_model is_trapped
test_that_is_cut = refl

pub tests_under_faults-opened : report_on (tested_run idle (fault_from 0 (PathOpen 1)) (cycle 13))
    ≡ short_report None (Some 11) None None
unfolding whole_model is_trapped
tests_under_faults-opened = refl

pub tests_under_faults-halted : report_on (tested_run idle (fault_from 0 Halt) (cycle 13))
    ≡ short_report (Some (found.Start, 10)) (Some 11) None None
unfolding whole_model is_trapped
tests_under_faults-halted = refl

pub tests_under_faults-wild : report_on (tested_run idle (fault_from 0 (Wild (65535 ∷ []) (false ∷ []))) (cycle 13))
    ≡ short_report (Some (found.Start, 10)) (Some 11) None None
unfolding whole_model is_trapped
tests_under_faults-wild = refl

pub tests_under_faults-skipped : report_on (tested_run idle (fault_from 0 (Skip 7)) (cycle 13))
    ≡ short_report (Some (found.Start, 10)) (Some 11) None None
unfolding whole_model is_trapped
tests_under_faults-skipped = refl

pub flip_in_a_test-report : report_on (tested_run idle (fault_from 3 (Flip 3 1)) (cycle 13))
    ≡ short_report (Some (found.Mirror, 3)) None None None
unfolding whole_model is_trapped
flip_in_a_test-report = refl

pub flip_in_a_test-path1 : map (λ m. m.path1) (moments_in_time (tested_run idle (fault_from 3 (Flip 3 1)) (cycle 13)))
    ≡ replicate 4 true ++ replicate 7 false ++ replicate 2 true
unfolding whole_model is_trapped
flip_in_a_test-path1 = refl

pub two_traps-report : report_on trapping_run
    ≡ reported None None (Some (trapped.Store, 1)) None
unfolding whole_model is_trapped
two_traps-report = refl

pub two_traps-traps : traps_of trapping_run
    ≡ false ∷ true ∷ true ∷ false ∷ true ∷ true ∷ []
unfolding whole_model is_trapped
two_traps-traps = refl

pub faults_go_on-script : map (λ m. m.reads.pedal) (moments_in_time (tested_run idle (fault_from 1 (Script 0 (1 ∷ 2 ∷ 3 ∷ []))) (rest 2 ++ cycle 3)))
    ≡ (0 ∷ 1000 ∷ []) ∷ (1 ∷ 1000 ∷ []) ∷ (2 ∷ 1000 ∷ []) ∷ (3 ∷ 1000 ∷ []) ∷ (1 ∷ 1000 ∷ []) ∷ []
unfolding whole_model is_trapped
faults_go_on-script = refl

pub faults_go_on-moved : sent_in (tested_run idle (fault_from 0 (Timing 7)) (rest 3 ++ cycle 19))
    ≡ (21, Good) ∷ []
unfolding whole_model is_trapped
faults_go_on-moved = refl

pub faults_go_on-left_out : sent_in (tested_run idle (fault_from 1 (Lapse (14 ∷ []) 0)) (rest 3 ++ cycle 19))
    ≡ (19, Bad) ∷ []
unfolding whole_model is_trapped
faults_go_on-left_out = refl

pub faults_go_on-skipped : report_on (tested_run idle (fault_from 1 (Skip 7)) (rest 2 ++ cycle 12))
    ≡ short_report (Some (found.Start, 12)) (Some 13) None None
unfolding whole_model is_trapped
faults_go_on-skipped = refl

pub excess_over_two_cycles-excess : ticks_where (true_excess 200) excess_goes_on
    ≡ 4 ∷ 5 ∷ 6 ∷ 19 ∷ 20 ∷ 21 ∷ 22 ∷ []
unfolding whole_model is_trapped
excess_over_two_cycles-excess = refl

pub excess_over_two_cycles-report : report_on excess_goes_on
    ≡ short_report (Some (found.Torque, 22)) (Some 23) None None
unfolding whole_model is_trapped
excess_over_two_cycles-report = refl
