-- Runs under a fault, computed from the definitions.
use Rattle.std.proofs.Common.{◌≡◌, true, false, [], ◌∷◌, ◌++◌, map, replicate, Some, None, refl}
use Rattle.eg_answer.specs.declared.marks.AnswerMark.TheVariants.{Absent}
use Rattle.eg_answer.specs.declared.marks.Verdict.TheVariants.{Right, Wrong}
use Rattle.eg_fault.specs.declared.class.Class.TheVariants.{Script, Bus, Skip, Disturb, Flip, Timing, Path1Closed}
use Rattle.eg_record.specs.declared.watch.Watch.TheVariants as found
use Rattle.eg_num.specs.Drive.{driven}
use Rattle.eg_model.specs.Examples.{idle, full, fault_from, run_of, bench_run, raised_run, moments_in_time, rows_in_time, verdicts_of, stages_of, report_on, reported}
use Rattle.eg_model.proofs.WholeModel.{whole_model}

-- ---- path 1 is closed: the answers stay out, and path 2 cuts ----

pub path_1_closed : report_on (bench_run full (fault_from 0 Path1Closed) 60)
    ≡ reported (Some (found.Torque, 9)) (Some 40) None (Some 9)
unfolding whole_model
path_1_closed = refl

pub path_1_closed-verdicts : verdicts_of (bench_run full (fault_from 0 Path1Closed) 60)
    ≡ (9, Some Right) ∷ (19, Some Wrong) ∷ (29, Some Wrong) ∷ (39, Some Wrong) ∷ (49, Some Wrong) ∷
    (59, Some Wrong) ∷ []
unfolding whole_model
path_1_closed-verdicts = refl

pub path_1_closes : report_on (bench_run full (fault_from 11 Path1Closed) 60)
    ≡ reported (Some (found.Torque, 9)) (Some 10) None (Some 9)
unfolding whole_model
path_1_closes = refl

pub path_1_closes-stages : stages_of (bench_run full (fault_from 11 Path1Closed) 60)
    ≡ replicate 10 true ++ false ∷ replicate 29 true ++ replicate 20 false
unfolding whole_model
path_1_closes-stages = refl

-- ---- the worst-case reaction is met: all torque is permitted at the first 12 ticks ----

pub raised : report_on raised_run ≡ reported (Some (found.Torque, 16)) (Some 50) None (Some 16)
unfolding whole_model
raised = refl

pub raised-stages : stages_of raised_run ≡ replicate 50 true ++ replicate 10 false
unfolding whole_model
raised-stages = refl

-- ---- a module is disturbed: no answer is good, and path 2 cuts ----

pub disturbed : report_on (bench_run idle (fault_from 12 (Disturb 2 4096)) 60)
    ≡ reported (Some (found.Answers, 39)) (Some 40) None None
unfolding whole_model
disturbed = refl

pub disturbed_after_sending : report_on (bench_run idle (fault_from 16 (Disturb 2 4096)) 60)
    ≡ reported (Some (found.Answers, 49)) (Some 50) None None
unfolding whole_model
disturbed_after_sending = refl

-- ---- a word is flipped ----

pub flipped : report_on (bench_run idle (fault_from 7 (Flip 3 1)) 20)
    ≡ reported (Some (found.Mirror, 7)) (Some 8) None None
unfolding whole_model
flipped = refl

-- ---- a load track reads 0: the pair disagrees ----

pub load_track_reads_0 : report_on (bench_run full (fault_from 0 (Script 4 (0 ∷ []))) 20)
    ≡ reported (Some (found.Load, 6)) (Some 7) None None
unfolding whole_model
load_track_reads_0 = refl

pub load_track_reads_0-pairs : map (λ m. m.signals.pairs)
    (moments_in_time (bench_run full (fault_from 0 (Script 4 (0 ∷ []))) 7)) ≡ 0 ∷ 0 ∷ 4 ∷ 4 ∷ 4 ∷ 4 ∷ 4 ∷ []
unfolding whole_model
load_track_reads_0-pairs = refl

-- ---- a pedal track reads 1000: the lower one counts ----

pub pedal_track_reads_1000 : report_on (bench_run idle (fault_from 0 (Script 0 (1000 ∷ []))) 30)
    ≡ reported (Some (found.Pedal, 4)) None None None
unfolding whole_model
pedal_track_reads_1000 = refl

pub pedal_track_reads_1000-permitted : map (λ m. m.signals.permitted)
    (moments_in_time (bench_run idle (fault_from 0 (Script 0 (1000 ∷ []))) 30)) ≡ replicate 30 200
unfolding whole_model
pedal_track_reads_1000-permitted = refl

-- ---- answers come too late, and just in time ----

pub late : report_on (bench_run idle (fault_from 0 (Timing 8)) 40)
    ≡ reported (Some (found.Answers, 29)) (Some 30) None None
unfolding whole_model
late = refl

pub in_time : report_on (bench_run idle (fault_from 0 (Timing 7)) 40)
    ≡ reported None None None None
unfolding whole_model
in_time = refl

-- ---- a module doesn't run ----

pub skipped : report_on (bench_run full (fault_from 0 (Skip 3)) 60)
    ≡ reported (Some (found.Answers, 29)) (Some 30) None (Some 9)
unfolding whole_model
skipped = refl

pub skipped-actual : map (λ m. m.signals.actual)
    (moments_in_time (bench_run full (fault_from 0 (Skip 3)) 60)) ≡ replicate 60 0
unfolding whole_model
skipped-actual = refl

-- ---- the raise is disturbed on its way ----

pub bus_disturbed : rows_in_time
    (run_of idle (fault_from 0 (Bus 1)) (driven 0 800 600 ∷ [])) ≡
    record {
      tick = 0;
      drive = driven 0 800 600;
      plate = 0;
      charge = 40;
      torque = 0;
      limit = 600;
      path1 = true;
      path2 = true;
      on = true;
      signals = 0 ∷ 200 ∷ 100 ∷ 0 ∷ 0 ∷ [];
      throttle = 0;
      ignition = 0;
      found = record {
        mirror = false;
        pedal = false;
        plate = false;
        load = false;
        speed = false;
        torque = false;
        answers = false;
        start = false;
      };
      answer = Absent;
      verdict = None;
      testing = false;
      fresh = true;
    } ∷ []
unfolding whole_model
bus_disturbed = refl
