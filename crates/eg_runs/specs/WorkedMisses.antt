-- Runs in which level 2 misses a tick now and then: at two distances, at a send tick where two wrong verdicts
-- are enough, and within an excess that has a gap.
use Rattle.std.specs.Prelude.{ℕ, [], ◌∷◌, ◌++◌, replicate, List, Option, None}
use Rattle.eg_num.specs.Drive.{DriveRow, driven}
use Rattle.eg_fault.specs.declared.class.Class.TheVariants.{Lapse}
use Rattle.eg_fault.specs.declared.class.Fault.{Fault}
use Rattle.eg_values.specs.Calibration.{CalibrationParts}
use Rattle.eg_values.specs.Reference.{reference_parts}
use Rattle.eg_record.specs.declared.summary.Summary.{Summary}
use Rattle.eg_record.specs.declared.watch.Watch.{Watch}
use Rattle.eg_model.specs.Bench.{Run}
use Rattle.eg_model.specs.Examples.{idle, full, at_rest, fault_from, bench_run, run_of, reported}

-- level 2 misses this tick, and after it one tick every `every` ticks, unless that is 0
abbrev pub missed_from : (tick every : ℕ) → Option Fault
missed_from tick every = fault_from tick (Lapse (0 ∷ []) every)

-- the reference calibration with a question every 7 ticks, whose answer is sent at tick 3 of its period; a
-- wrong verdict adds 3, and a right one takes 2
abbrev pub sevens : ℕ → CalibrationParts
sevens limit = record reference_parts {
  times = record {
    period = 7;
    first = 2;
    last = 5;
    send = 3;
    weights = record { up = 3; down = 2; limit = limit };
  };
}

-- a run of `count` ticks with this calibration, in which level 1 waits
abbrev pub sevens_run : CalibrationParts → Option Fault → ℕ → Run
sevens_run cal fault count = record (bench_run idle fault count) {
  setting = record { cal = cal; image = idle; fault = fault };
}

-- misses at tick 3, which is a send tick, and every `every` ticks; two wrong verdicts add 6, the limit is 9
abbrev pub missed_run : (every : ℕ) → Run
missed_run every = sevens_run (sevens 9) (missed_from 3 every) 77

-- a single miss at tick 3, where the limit is 6, which two wrong verdicts reach
abbrev pub single_miss : Run
single_miss = sevens_run (sevens 6) (missed_from 3 0) 28

-- full throttle, which is an excess from tick 5 on; a raise permits it at tick 9, and from tick 11 on
abbrev pub gap : List DriveRow
gap = replicate 9 at_rest ++ driven 0 800 10000 ∷ at_rest ∷ replicate 19 (driven 0 800 10000)

abbrev pub gap_run : Option Fault → Run
gap_run fault = run_of full fault gap

-- the report of a run in which no excess is confirmed, with this worst-case reaction
abbrev pub reported_with : (bound : ℕ) → Option (Watch × ℕ) → Option ℕ → Summary
reported_with bound first off = record (reported first off None None) { bound = bound }
