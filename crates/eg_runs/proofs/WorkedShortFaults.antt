-- Runs under a fault, computed from the definitions.
use Rattle.std.proofs.Common.{◌≡◌, true, false, [], ◌∷◌, ◌++◌, map, replicate, Some, None, refl}
use Rattle.eg_answer.specs.declared.marks.AnswerMark.TheVariants.{Good, Bad}
use Rattle.eg_answer.specs.declared.marks.Verdict.TheVariants.{Right, Wrong}
use Rattle.eg_fault.specs.declared.class.Class.TheVariants.{Plate, Skip, Flip, Halt, Wild, Path2Closed, PathOpen, Lapse}
use Rattle.eg_fault.specs.Faults.{opens_path}
use Rattle.eg_record.specs.declared.watch.Watch.TheVariants as found
use Rattle.eg_model.specs.Rows.{signal_list}
use Rattle.eg_model.specs.Examples.{idle, full, fault_from, bench_run, pressed_run, offset_run, disturbed_raise_run, moments_in_time, answers_of, verdicts_of, stages_of, report_on, reported}
use Rattle.eg_laws.specs.Findings.{opens_by_itself, is_flip, flips_at}
use Rattle.eg_model.proofs.WholeModel.{whole_model}

-- ---- it limits the pedal, once it is found ----

pub limited-permitted : map (λ m. m.signals.permitted) (moments_in_time pressed_run)
    ≡ replicate 5 1000 ++ replicate 5 200
unfolding whole_model
limited-permitted = refl

-- ---- react doesn't run any more, right after it has ordered path 1 open ----

pub open_without_react : stages_of (bench_run full (fault_from 10 (Skip 7)) 15)
    ≡ replicate 10 true ++ replicate 5 false
unfolding whole_model
open_without_react = refl

-- ---- the monitoring module is wild ----

pub wild : report_on (bench_run full (fault_from 0 (Wild (65535 ∷ []) (false ∷ []))) 20)
    ≡ reported (Some (found.Torque, 9)) (Some 10) None (Some 9)
unfolding whole_model
wild = refl

pub wild-verdicts : verdicts_of (bench_run full (fault_from 0 (Wild (65535 ∷ []) (false ∷ []))) 20) ≡ []
unfolding whole_model
wild-verdicts = refl

-- ---- level 2 misses one tick ----

pub lapsed : report_on (bench_run idle (fault_from 3 (Lapse (0 ∷ []) 0)) 30)
    ≡ reported None None None None
unfolding whole_model
lapsed = refl

pub lapsed-answers : answers_of (bench_run idle (fault_from 3 (Lapse (0 ∷ []) 0)) 30)
    ≡ (5, Bad) ∷ (15, Good) ∷ (25, Good) ∷ []
unfolding whole_model
lapsed-answers = refl

pub lapsed-verdicts : verdicts_of (bench_run idle (fault_from 3 (Lapse (0 ∷ []) 0)) 30)
    ≡ (9, Some Wrong) ∷ (19, Some Right) ∷ (29, Some Right) ∷ []
unfolding whole_model
lapsed-verdicts = refl

-- ---- what the other classes do ----

pub wild_opens : stages_of (bench_run idle (fault_from 3 (Wild (0 ∷ []) (false ∷ true ∷ []))) 6)
    ≡ replicate 5 true ++ false ∷ []
unfolding whole_model
wild_opens = refl

pub path_2_opened : stages_of (bench_run idle (fault_from 3 (PathOpen 2)) 6)
    ≡ replicate 3 true ++ replicate 3 false
unfolding whole_model
path_2_opened = refl

-- ---- such a cut comes with no watch ----

pub wild-unnamed : report_on (bench_run idle (fault_from 3 (Wild (0 ∷ []) (false ∷ true ∷ []))) 6)
    ≡ reported None (Some 5) None None
unfolding whole_model
wild-unnamed = refl

pub path_2-unnamed : report_on (bench_run idle (fault_from 3 (PathOpen 2)) 6)
    ≡ reported None (Some 3) None None
unfolding whole_model
path_2-unnamed = refl

-- which faults it comes of: each from its onset on, and a wild monitoring module only where it orders path 2
-- open at some tick
opened_from : opens_by_itself (fault_from 3 (PathOpen 2)) 3 ≡ true
unfolding opens_by_itself opens_path
opened_from = refl

opened_before : opens_by_itself (fault_from 3 (PathOpen 2)) 2 ≡ false
unfolding opens_by_itself opens_path
opened_before = refl

wild_from : opens_by_itself (fault_from 3 (Wild (0 ∷ []) (false ∷ true ∷ []))) 3 ≡ true
unfolding opens_by_itself opens_path
wild_from = refl

wild_never : opens_by_itself (fault_from 3 (Wild (0 ∷ []) (false ∷ []))) 9 ≡ false
unfolding opens_by_itself opens_path
wild_never = refl

skipped_never : opens_by_itself (fault_from 3 (Skip 7)) 9 ≡ false
unfolding opens_by_itself opens_path
skipped_never = refl

-- and a word is flipped at the onset alone
flipped_now : map (λ t. flips_at (fault_from 3 (Flip 0 1)) t) (2 ∷ 3 ∷ 4 ∷ []) ≡ false ∷ true ∷ false ∷ []
unfolding flips_at is_flip
flipped_now = refl

pub path_2_closed : map (λ m. m.path2) (moments_in_time (bench_run full (fault_from 0 Path2Closed) 45))
    ≡ replicate 45 true
unfolding whole_model
path_2_closed = refl

pub halted : map (λ m. m.world.throttle) (moments_in_time (bench_run full (fault_from 0 Halt) 2))
    ≡ 0 ∷ 0 ∷ []
unfolding whole_model
halted = refl

pub plate_held : map (λ m. m.entry.shown.position)
    (moments_in_time (bench_run idle (fault_from 2 (Plate 300)) 5)) ≡ 0 ∷ 0 ∷ 300 ∷ 300 ∷ 300 ∷ []
unfolding whole_model
plate_held = refl

pub plate_held-charge : map (λ m. m.entry.shown.load_1)
    (moments_in_time (bench_run idle (fault_from 2 (Plate 300)) 5)) ≡ 40 ∷ 40 ∷ 40 ∷ 80 ∷ 120 ∷ []
unfolding whole_model
plate_held-charge = refl

-- ---- a pedal track reads less than it should, cut at 0 ----

pub offset-pedal : map (λ m. m.reads.pedal) (moments_in_time offset_run) ≡ (0 ∷ 950 ∷ []) ∷ []
unfolding whole_model
offset-pedal = refl

pub limited : report_on pressed_run ≡ reported (Some (found.Pedal, 4)) None None None
unfolding whole_model
limited = refl

pub raise-limit : map (λ m. m.limit) (moments_in_time disturbed_raise_run) ≡ 600 ∷ []
unfolding whole_model
raise-limit = refl

pub raise-signals : map (λ m. signal_list m.signals) (moments_in_time disturbed_raise_run)
    ≡ (0 ∷ 200 ∷ 100 ∷ 0 ∷ 0 ∷ []) ∷ []
unfolding whole_model
raise-signals = refl
