-- Runs of a diesel engine on the bench, and what is told of them.
use Rattle.std.specs.Prelude.{ℕ, List, ◌∷◌, ◌++◌, map, replicate, codes, reverse, length}
use Rattle.eg_num.specs.Drive.{DriveRow}
use Rattle.eg_record.specs.declared.summary.Summary.{Summary}
use Rattle.eg_model.specs.History.{Moment}
use Rattle.eg_model.specs.Engines.{diesel}
use Rattle.eg_model.specs.Bench.{Run, moments_to}
use Rattle.eg_model.specs.Rows.{report_of}
use Rattle.eg_model.specs.Examples.{at_rest, resetting}

-- what the report says of a run of the name `a`
abbrev pub diesel_report : Run → Summary
diesel_report r = report_of diesel (codes "a") r

-- the moments of a run in the order of time
abbrev pub diesel_moments : Run → List Moment
diesel_moments r = reverse (moments_to diesel r (length r.drive))

-- tick by tick: where the rack stands, and what is injected
abbrev pub racks : Run → List ℕ
racks r = map (λ m. m.entry.shown.position) (diesel_moments r)

abbrev pub quantities : Run → List ℕ
quantities r = map (λ m. m.entry.shown.load_1) (diesel_moments r)

-- the torque that the engine gives
abbrev pub torques : Run → List ℕ
torques r = map (λ m. m.entry.shown.torque) (diesel_moments r)

-- the pedal at rest, and a reset at tick 6: where a test of the paths takes ten ticks it is passed at tick 16
abbrev pub reset_at_6 : List DriveRow
reset_at_6 = replicate 6 at_rest ++ resetting ∷ replicate 12 at_rest
