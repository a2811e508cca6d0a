-- Runs with a ramp, by which permitted torque comes down by at most 5.0 Nm in a tick.
use Rattle.std.specs.Prelude.{ℕ, List, [], ◌∷◌, ◌++◌, replicate, Option}
use Rattle.eg_num.specs.Drive.{DriveRow, driven}
use Rattle.eg_fault.specs.declared.class.Fault.{Fault}
use Rattle.eg_model.specs.Bench.{Run}
use Rattle.eg_model.specs.Examples.{at_rest, run_of}
use Rattle.eg_laws.specs.Examples.{ramped_parts}

-- a run of an image with the reference calibration and that ramp
abbrev pub ramped_run : List ℕ → Option Fault → List DriveRow → Run
ramped_run image fault drive = record (run_of image fault drive) {
  setting = record { cal = ramped_parts; image = image; fault = fault };
}

-- the pedal is pressed half down for ten ticks, and then let go
abbrev pub let_go : List DriveRow
let_go = replicate 10 (driven 500 800 0) ++ replicate 25 at_rest

-- from 95.0 Nm down to 25.0 Nm, tick by tick
abbrev pub down_the_ramp : List ℕ
down_the_ramp =
    950 ∷ 900 ∷ 850 ∷ 800 ∷ 750 ∷ 700 ∷ 650 ∷ 600 ∷ 550 ∷ 500 ∷ 450 ∷ 400 ∷ 350 ∷ 300 ∷ 250 ∷ []

-- a raise permits all torque at tick 4 alone
abbrev pub raised_once : List DriveRow
raised_once = replicate 4 at_rest ++ driven 0 800 10000 ∷ replicate 25 at_rest

-- The pedal is pressed down at 3000 rpm, where the table has its greatest number; and from the next tick
-- on it is at rest at 6000 rpm, where the table has its least.
abbrev pub steepest : List DriveRow
steepest = driven 1000 3000 0 ∷ replicate 49 (driven 0 6000 0)
