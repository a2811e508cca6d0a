-- Runs that show what the usual ones don't, computed from the definitions.
use Rattle.std.proofs.Common.{◌≡◌, [], ◌∷◌, map, replicate, Some, None, refl}
use Rattle.eg_answer.specs.declared.marks.AnswerMark.TheVariants.{Good}
use Rattle.eg_answer.specs.declared.marks.Verdict.TheVariants.{Right, Wrong}
use Rattle.eg_fault.specs.declared.class.Class.TheVariants.{Skip, Timing}
use Rattle.eg_record.specs.declared.watch.Watch.TheVariants as found
use Rattle.eg_model.specs.Examples.{idle, full, fault_from, bench_run, report_on, reported, moments_in_time, answers_of, verdicts_of}
use Rattle.eg_model.proofs.WholeModel.{whole_model}
use Rattle.eg_runs.specs.UnusualRuns.{overflowing_run}

-- ---- answers before the window ----

pub early : report_on (bench_run idle (fault_from 0 (Timing 3)) 40)
    ≡ reported (Some (found.Answers, 29)) (Some 30) None None
unfolding whole_model
early = refl

pub early-answers : answers_of (bench_run idle (fault_from 0 (Timing 3)) 30)
    ≡ (3, Good) ∷ (13, Good) ∷ (23, Good) ∷ []
unfolding whole_model
early-answers = refl

pub early-verdicts : verdicts_of (bench_run idle (fault_from 0 (Timing 3)) 30)
    ≡ (9, Some Wrong) ∷ (19, Some Wrong) ∷ (29, Some Wrong) ∷ []
unfolding whole_model
early-verdicts = refl

-- ---- two answers in one period ----

pub two-answers : answers_of (bench_run idle (fault_from 6 (Timing 7)) 20)
    ≡ (5, Good) ∷ (7, Good) ∷ (17, Good) ∷ []
unfolding whole_model
two-answers = refl

pub two-verdicts : verdicts_of (bench_run idle (fault_from 6 (Timing 7)) 20)
    ≡ (9, Some Wrong) ∷ (19, Some Right) ∷ []
unfolding whole_model
two-verdicts = refl

-- ---- a signal that stays ----

pub stays-actual : map (λ m. m.signals.actual) (moments_in_time (bench_run full (fault_from 6 (Skip 3)) 10))
    ≡ 100 ∷ 100 ∷ 200 ∷ 300 ∷ 400 ∷ replicate 5 500
unfolding whole_model
stays-actual = refl

pub stays-charge : map (λ m. m.entry.shown.load_1) (moments_in_time (bench_run full (fault_from 6 (Skip 3)) 10))
    ≡ 40 ∷ 40 ∷ 80 ∷ 120 ∷ 160 ∷ 200 ∷ 240 ∷ 280 ∷ 320 ∷ 360 ∷ []
unfolding whole_model
stays-charge = refl

-- ---- a reading that is cut off ----

pub cut-pedal : map (λ m. m.reads.pedal) (moments_in_time overflowing_run) ≡ (65535 ∷ 800 ∷ []) ∷ []
unfolding whole_model
cut-pedal = refl

pub cut-throttle : map (λ m. m.world.throttle) (moments_in_time overflowing_run) ≡ 32767 ∷ []
unfolding whole_model
cut-throttle = refl
