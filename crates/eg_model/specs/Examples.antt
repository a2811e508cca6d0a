-- Runs on the bench that are worked out: images of level 1, drives, and runs of them with the reference
-- calibration.
use Rattle.std.specs.Prelude.{ℕ, negsuc, ◌==◌, Bool, true, false, is_some, List, [], ◌∷◌, ◌++◌, map, filter, reverse, length, replicate, codes, Option, Some, None}
use Rattle.eg_num.specs.Drive.{DriveRow, driven}
use Rattle.eg_answer.specs.declared.marks.AnswerMark.{AnswerMark}
use Rattle.eg_answer.specs.declared.marks.AnswerMark.TheVariants.{Absent}
use Rattle.eg_answer.specs.declared.marks.Verdict.{Verdict}
use Rattle.eg_word.specs.declared.images.TheConstants.{IDLE, FULL}
use Rattle.eg_word.specs.declared.registers.Trap.{Trap}
use Rattle.eg_fault.specs.declared.class.Class.{Class}
use Rattle.eg_fault.specs.declared.class.Class.TheVariants.{Script, Offset, Bus, Flip, Path1Closed}
use Rattle.eg_fault.specs.declared.class.Fault.{Fault}
use Rattle.eg_values.specs.Calibration.{CalibrationParts}
use Rattle.eg_values.specs.Reference.{reference_times, reference_parts}
use Rattle.eg_record.specs.declared.row.Row.{Row}
use Rattle.eg_record.specs.declared.summary.Summary.{Summary}
use Rattle.eg_record.specs.declared.watch.Watch.{Watch}
use Rattle.eg_model.specs.History.{Moment}
use Rattle.eg_model.specs.Answers.{is_answer}
use Rattle.eg_model.specs.Engines.{gasoline}
use Rattle.eg_model.specs.Bench.{Run, moments_to}
use Rattle.eg_model.specs.Rows.{record_rows, report_of}

-- the image that waits for ever
abbrev pub idle : List ℕ
idle = IDLE

-- the image that sets both outputs to 1000, and waits
abbrev pub full : List ℕ
full = FULL

-- the image that gives, in each slice, half of the pedal to the throttle, and 1000 to the ignition
abbrev pub follow : List ℕ
follow =
    0x1210 ∷ 0x2200 ∷ 0x1407 ∷ 0x2468 ∷ 0xb640 ∷ 0x96c1 ∷ 0xc650 ∷ 0xc451 ∷ 0xf000 ∷ 0xd1fa ∷ []

-- the image that reads the actual torque in one slice and again in the next, and gives the difference to the
-- throttle
abbrev pub probe : List ℕ
probe =
    0x1210 ∷ 0x2220 ∷ 0x1a10 ∷ 0x2a10 ∷ 0xb442 ∷ 0xf000 ∷ 0xb642 ∷ 0x58d0 ∷ 0xc940 ∷ 0xf000 ∷ 0xd1f9 ∷ []

-- the pedal at rest, at 800 rpm
abbrev pub at_rest : DriveRow
at_rest = driven 0 800 0

-- the usual slices: a hundred instructions each
abbrev pub usual_slices : List ℕ
usual_slices = replicate 9 100

-- a fault of this class from this tick on
abbrev pub fault_from : ℕ → Class → Option Fault
fault_from onset class = Some (record { onset = onset; class = class })

-- a run of an image with the reference calibration and the usual slices
abbrev pub run_of : List ℕ → Option Fault → List DriveRow → Run
run_of image fault drive = record {
  setting = record { cal = reference_parts; image = image; fault = fault };
  plan = usual_slices ∷ [];
  drive = drive;
}

-- such a run of `count` ticks, with the pedal at rest
abbrev pub bench_run : List ℕ → Option Fault → ℕ → Run
bench_run image fault count = run_of image fault (replicate count at_rest)

-- the pedal at rest, and the unit is reset
abbrev pub resetting : DriveRow
resetting = record at_rest { reset = true }

-- the reference calibration, but that one wrong verdict is enough: so a test of the paths takes one period,
-- ten ticks
abbrev pub short_test : CalibrationParts
short_test = record reference_parts {
  times = record reference_times { weights = record { up = 9; down = 1; limit = 9 } };
}

-- a run with this calibration
abbrev pub tested_run : List ℕ → Option Fault → List DriveRow → Run
tested_run image fault drive =
    record (run_of image fault drive) { setting = record { cal = short_test; image = image; fault = fault } }

-- path 1 is closed from the start, and a raise permits all torque at the first 12 of 60 ticks
abbrev pub raised_run : Run
raised_run =
    run_of full (fault_from 0 Path1Closed)
    (replicate 12 (driven 0 800 10000) ++ replicate 48 at_rest)

-- four ticks of the probe, which runs in slices 3 and 4 alone
abbrev pub probe_run : Run
probe_run = record (bench_run probe None 4) { plan = (0 ∷ 0 ∷ 0 ∷ 10 ∷ 10 ∷ 0 ∷ 0 ∷ 0 ∷ 0 ∷ []) ∷ [] }

-- a row of this run, by what changes in it
abbrev pub probe_row : (tick plate charge actual throttle : ℕ) → Row
probe_row tick plate charge actual throttle = record {
  tick = tick;
  drive = at_rest;
  plate = plate;
  charge = charge;
  torque = 0;
  limit = 200;
  path1 = true;
  path2 = true;
  on = true;
  signals = 0 ∷ 200 ∷ actual ∷ 0 ∷ 0 ∷ [];
  throttle = throttle;
  ignition = 0;
  found = record {
    mirror = false;
    pedal = false;
    plate = false;
    load = false;
    speed = false;
    torque = false;
    answers = false;
    start = false;
  };
  answer = Absent;
  verdict = None;
  testing = false;
  fresh = tick == 0;
}

-- the pedal at 200 from tick 5 to tick 24, and else at 0
abbrev pub follow_run : Run
follow_run =
    run_of follow None (replicate 5 at_rest ++ replicate 20 (driven 200 800 0) ++ replicate 15 at_rest)

-- the first pedal track reads 1000 where the pedal stands at 500, for ten ticks
abbrev pub pressed_run : Run
pressed_run =
    run_of idle (fault_from 0 (Script 0 (1000 ∷ [])))
    (replicate 10 (driven 500 800 0))

-- the first pedal track reads 100 less where the pedal stands at 50, for one tick
abbrev pub offset_run : Run
offset_run =
    run_of idle (fault_from 0 (Offset 0 (negsuc 99))) (driven 50 800 0 ∷ [])

-- a raise of 600 whose lowest bit is flipped on its way, for one tick
abbrev pub disturbed_raise_run : Run
disturbed_raise_run =
    run_of idle (fault_from 0 (Bus 1)) (driven 0 800 600 ∷ [])

-- a slice plan of two rows: nothing in the first tick, and the usual slices in the second
abbrev pub alternating_run : Run
alternating_run = record (bench_run full None 2) { plan = replicate 9 0 ∷ usual_slices ∷ [] }

-- the probe in slices 0 and 1, under a word that is flipped at tick 1
abbrev pub flipped_probe_run : Run
flipped_probe_run =
    record (bench_run probe (fault_from 1 (Flip 3 1)) 2) { plan = (10 ∷ 10 ∷ replicate 7 0) ∷ [] }

-- the image that gives the raise, as it is read, to the throttle
abbrev pub raise_reader : List ℕ
raise_reader = 0x1210 ∷ 0x2210 ∷ 0x1410 ∷ 0x2408 ∷ 0xb680 ∷ 0xc640 ∷ 0xf000 ∷ 0xd1fe ∷ []

-- one tick of this image, with a raise of 7
abbrev pub raise_run : Run
raise_run = run_of raise_reader None (driven 0 800 7 ∷ [])

-- the image that tries to store to the word of a signal
abbrev pub storing : List ℕ
storing = 0x1210 ∷ 0x2220 ∷ 0xc240 ∷ []

-- jumps to itself for ever, a thousand times a tick
abbrev pub looping_run : Run
looping_run = record (bench_run (0xd1ff ∷ []) None 30) { plan = (1000 ∷ replicate 8 0) ∷ [] }

-- ---- what is told of a run ----

-- the moments of a run, and its rows, in the order of time
abbrev pub moments_in_time : Run → List Moment
moments_in_time r = reverse (moments_to gasoline r (length r.drive))

abbrev pub rows_in_time : Run → List Row
rows_in_time r = reverse (record_rows gasoline r)

-- the answers that are sent, each with its tick
abbrev pub answers_of : Run → List (ℕ × AnswerMark)
answers_of r = map (λ m. (m.tick, m.mark)) (filter (λ m. is_answer m.mark) (moments_in_time r))

-- the verdicts, each with its tick
abbrev pub verdicts_of : Run → List (ℕ × Option Verdict)
verdicts_of r = map (λ m. (m.tick, m.verdict)) (filter (λ m. is_some m.verdict) (moments_in_time r))

-- whether the stages are on, tick by tick
abbrev pub stages_of : Run → List Bool
stages_of r = map (λ m. m.on) (moments_in_time r)

-- what the report says of a run of the name `a`
abbrev pub report_on : Run → Summary
report_on r = report_of gasoline (codes "a") r

-- the report of a run of that name with the reference calibration, in full
abbrev pub reported : Option (Watch × ℕ) → Option ℕ → Option (Trap × ℕ) → Option ℕ → Summary
reported first off trap excess =
    record { name = codes "a"; first = first; off = off; trap = trap; confirmed = excess; bound = 34 }
