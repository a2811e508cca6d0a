-- Runs that are worked out, computed from the definitions.
use Rattle.std.proofs.Common.{◌≡◌, true, false, [], ◌∷◌, ◌++◌, map, replicate, Some, None, refl, ap, ◌∙◌}
use Rattle.std.specs.Prelude.{codes}
use Rattle.eg_num.specs.Arithmetic.{estimate}
use Rattle.eg_answer.specs.declared.marks.AnswerMark.TheVariants.{Good}
use Rattle.eg_answer.specs.declared.marks.Verdict.TheVariants.{Right, Wrong}
use Rattle.eg_record.specs.declared.watch.Watch.TheVariants.{Torque}
use Rattle.std.specs.Fmt.{digits}
use Rattle.eg_fault.specs.declared.class.Class.TheVariants.{Path1Closed}
use Rattle.eg_record.specs.Texts.{report_end}
use Rattle.eg_model.specs.Examples.{idle, full, fault_from, bench_run, moments_in_time, answers_of, verdicts_of, stages_of, report_on, reported}
use Rattle.eg_model.proofs.WholeModel.{whole_model}
use Rattle.eg_runs.proofs.WorkedFaults.{path_1_closed}

-- ---- full throttle, without a fault ----

pub full_throttle-stages : stages_of (bench_run full None 12) ≡ replicate 10 true ++ false ∷ false ∷ []
unfolding whole_model
full_throttle-stages = refl

pub full_throttle-estimate : map (estimate 2500) (160 ∷ 200 ∷ []) ≡ 400 ∷ 500 ∷ []
full_throttle-estimate = refl

pub full_throttle-answers : answers_of (bench_run full None 40) ≡ (5, Good) ∷ []
unfolding whole_model
full_throttle-answers = refl

pub full_throttle-verdicts : verdicts_of (bench_run full None 40)
    ≡ (9, Some Right) ∷ (19, Some Wrong) ∷ (29, Some Wrong) ∷ (39, Some Wrong) ∷ []
unfolding whole_model
full_throttle-verdicts = refl

-- ---- nothing happens ----

pub idle_run : report_on (bench_run idle None 60) ≡ reported None None None None
unfolding whole_model
idle_run = refl

pub idle-answers : answers_of (bench_run idle None 40)
    ≡ (5, Good) ∷ (15, Good) ∷ (25, Good) ∷ (35, Good) ∷ []
unfolding whole_model
idle-answers = refl

pub idle-verdicts : verdicts_of (bench_run idle None 40)
    ≡ (9, Some Right) ∷ (19, Some Right) ∷ (29, Some Right) ∷ (39, Some Right) ∷ []
unfolding whole_model
idle-verdicts = refl

-- ---- answers are found after a trip ----

pub full_throttle-found : map (λ m. m.found.answers) (moments_in_time (bench_run full None 50))
    ≡ replicate 39 false ++ true ∷ replicate 10 false
unfolding whole_model
full_throttle-found = refl

-- ---- a campaign of three runs, and its last line ----

full_throttle-60 : report_on (bench_run full None 60)
    ≡ reported (Some (Torque, 9)) (Some 10) None (Some 9)
unfolding whole_model
full_throttle-60 = refl

three_runs : map report_on
    (bench_run idle None 60 ∷ bench_run full None 60 ∷ bench_run full (fault_from 0 Path1Closed) 60 ∷ [])
    ≡ reported None None None None
    ∷ reported (Some (Torque, 9)) (Some 10) None (Some 9)
    ∷ reported (Some (Torque, 9)) (Some 40) None (Some 9) ∷ []
three_runs = rw (idle_run, full_throttle-60, path_1_closed) refl

three_reports-end : report_end
    (reported None None None None
    ∷ reported (Some (Torque, 9)) (Some 10) None (Some 9)
    ∷ reported (Some (Torque, 9)) (Some 40) None (Some 9) ∷ [])
    ≡ codes "runs 3; detected 2; off 2\n"
unfolding whole_model report_end digits
three_reports-end = refl

pub three_runs-end : report_end (map report_on
    (bench_run idle None 60 ∷ bench_run full None 60 ∷ bench_run full (fault_from 0 Path1Closed) 60 ∷ []))
    ≡ codes "runs 3; detected 2; off 2\n"
three_runs-end = ap report_end three_runs ∙ three_reports-end
