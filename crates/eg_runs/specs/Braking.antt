-- Runs with a brake: the calibration that lets it count, and what a row of one tick tells.
use Rattle.std.specs.Prelude.{ℕ, Bool, true, List, [], ◌∷◌, ◌++◌, map, replicate, Option}
use Rattle.eg_num.specs.Drive.{DriveRow, driven}
use Rattle.eg_fault.specs.declared.class.Class.{Class}
use Rattle.eg_fault.specs.declared.class.Fault.{Fault}
use Rattle.eg_values.specs.Calibration.{CalibrationParts}
use Rattle.eg_values.specs.Reference.{reference_parts}
use Rattle.eg_record.specs.declared.row.Row.{Row}
use Rattle.eg_model.specs.Bench.{Run}
use Rattle.eg_model.specs.Examples.{idle, fault_from, run_of, probe_row, rows_in_time}

-- the reference calibration, but that the brake counts
abbrev pub braking_parts : CalibrationParts
braking_parts = record reference_parts { brake = true }

-- a run by that calibration
abbrev pub braking_run : List ℕ → Option Fault → List DriveRow → Run
braking_run image fault drive = record (run_of image fault drive) {
  setting = record { cal = braking_parts; image = image; fault = fault };
}

-- ---- one tick: the pedal pressed right down at 800 rpm, and a raise of 600 ----

-- the driver brakes, or doesn't
abbrev pub pressed : Bool → DriveRow
pressed brake = record (driven 1000 800 600) { brake = brake }

-- the row of that tick where level 1 waits; the arguments are what differs between such runs
abbrev pub row_told : (brake : Bool) (limit used permitted : ℕ) → Row
row_told brake limit used permitted = record (probe_row 0 0 40 100 0) {
  drive = pressed brake;
  limit = limit;
  signals = used ∷ permitted ∷ 100 ∷ 0 ∷ 0 ∷ [];
}

-- the record of that one tick where the brake counts, under a fault of this class
abbrev pub told_under : Class → Bool → List Row
told_under class brake = rows_in_time (braking_run idle (fault_from 0 class) (pressed brake ∷ []))

-- the signals of level 2 at that tick, where the brake counts
abbrev pub seen_under : Class → Bool → List (List ℕ)
seen_under class brake = map (λ row. row.signals) (told_under class brake)

-- ---- level 1 holds the throttle while the driver brakes ----

-- the pedal pressed right down at 3000 rpm for 20 ticks, and then the brake besides for ten more
abbrev pub held_throttle_drive : List DriveRow
held_throttle_drive =
    replicate 20 (driven 1000 3000 0) ++ replicate 10 (record (driven 1000 3000 0) { brake = true })
