-- Runs that show the laws of lapses at work. In each level 1 opens the throttle. In one level 2 runs at one
-- tick of ten; in the others it runs up to a send tick, and never again.
use Rattle.std.specs.Prelude.{Bool, List, [], ◌∷◌, ◌++◌, map, replicate, Some, None}
use Rattle.eg_num.specs.Drive.{driven}
use Rattle.eg_fault.specs.declared.class.Class.TheVariants.{Lapse}
use Rattle.eg_values.specs.Calibration.{CalibrationParts}
use Rattle.eg_values.specs.Reference.{reference_rules, reference_parts}
use Rattle.eg_record.specs.Excess.{true_excess}
use Rattle.eg_model.specs.Bench.{Run}
use Rattle.eg_model.specs.Examples.{full, at_rest, fault_from, run_of, bench_run, rows_in_time}
use Rattle.eg_laws.specs.MissedTicks.{never_again}

-- level 2 is left out at the ticks 0 to 8, 10 to 18, and so on
abbrev pub lapsing_run : Run
lapsing_run = bench_run full (fault_from 0 (Lapse (0 ∷ 1 ∷ 2 ∷ 3 ∷ 4 ∷ 5 ∷ 6 ∷ 7 ∷ 8 ∷ []) 10)) 60

-- it runs up to tick 5, which is a send tick
abbrev pub dead_run : Run
dead_run = bench_run full (Some (never_again 6)) 50

-- the reference calibration, by which ten runs of level 2 confirm an excess in place of five
abbrev pub slow_parts : CalibrationParts
slow_parts = record reference_parts {
  rules = record reference_rules { torque = record reference_rules.torque { limit = 10 } };
}

-- A raise permits all torque at the first 7 ticks. Level 2 runs at the next 9 ticks, the last of which is a
-- send tick, and at none after them.
abbrev pub standing_run : Run
standing_run = record (run_of full None (replicate 7 (driven 0 800 10000) ++ replicate 46 at_rest)) {
  setting = record { cal = slow_parts; image = full; fault = fault_from 16 (Lapse (0 ∷ []) 1) };
}

-- the true excess at each tick of a run, in the order of time
abbrev pub excesses_of : Run → List Bool
excesses_of r = map (true_excess r.setting.cal.rules.threshold) (rows_in_time r)
