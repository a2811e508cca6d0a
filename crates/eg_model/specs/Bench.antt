-- On the bench an engine makes one step a tick, from its rest on, by level 1's two outputs as the tick before
-- in the span left them. A run has a setting, a slice plan and a drive, from which its moments follow.
use Rattle.std.specs.Prelude.{ℕ, zero, suc, ◌%◌, Bool, ◌&&◌, if◌then◌else◌, List, [], ◌∷◌, length, slice_index_or, Option}
use Rattle.eg_num.specs.Drive.{DriveRow, driven}
use Rattle.eg_plant.specs.PlantParts.{PlantParts}
use Rattle.eg_plant.specs.Engine.{Shown}
use Rattle.eg_fault.specs.Effects.{Effects}
use Rattle.eg_fault.specs.Faults.{effects}
use Rattle.eg_model.specs.History.{Setting, Entry, drives, Moment}
use Rattle.eg_model.specs.Paths.{both_conduct}
use Rattle.eg_model.specs.Level1.{last_world}
use Rattle.eg_model.specs.Spans.{kind_at, before_at, next_after}
use Rattle.eg_model.specs.Engines.{BenchEngine}

-- The engine e after one step: it uses level 1's outputs as the ticks `past` left them, whether the stages
-- are on, and where a fault holds the plate, if one does.
unfoldable pub stepped : {E : Type 0} → BenchEngine E → PlantParts → E → List Moment → (on : Bool) →
    (held : Option ℕ) → E
stepped b plant e past on held =
    let world = last_world past in b.step plant e world.throttle world.ignition on held

-- The engine after these ticks of a run: one step at each tick, from its rest on, without a break between
-- spans. At the first tick of a span nothing is commanded yet. A step uses the state, not what was shown.
unfoldable pub engine_after : {E : Type 0} → BenchEngine E → Setting → List Moment → E
engine_after b s [] = b.rest s.cal.plant
engine_after b s (m ∷ past) =
    stepped b s.cal.plant (engine_after b s past) (if m.fresh then [] else past) m.on
    (effects s.fault (length past)).held_plate

-- what the engine shows after its step at the tick that follows these and has this drive row
unfoldable pub shown_at : {E : Type 0} → BenchEngine E → Setting → Effects → DriveRow → List Moment → Shown
shown_at b s x drive past =
    let before = before_at drive past in
    let on = drives (kind_at drive past) && both_conduct x before in
    b.shows (stepped b s.cal.plant (engine_after b s past) before on x.held_plate)

-- a run: its setting, the slice plan and the drive, both in the order of time
pub record Run : Type 0 where
  pub setting : Setting
  pub plan : List (List ℕ)
  pub drive : List DriveRow

-- the drive row past the end of the drive
unfoldable pub no_drive : DriveRow
no_drive = driven 0 0 0

-- the drive row of a tick, and its slice row: the rows of the plan come in turn, again and again
unfoldable pub drive_at : Run → ℕ → DriveRow
drive_at r t = slice_index_or r.drive t no_drive

unfoldable pub slices_at : Run → ℕ → List ℕ
slices_at r t = slice_index_or r.plan (t % length r.plan) []

-- what comes in at tick t on the bench, after these ticks
unfoldable pub entry_at : {E : Type 0} → BenchEngine E → Run → ℕ → List Moment → Entry
entry_at b r t past = record {
  drive = drive_at r t;
  slices = slices_at r t;
  shown = shown_at b r.setting (effects r.setting.fault t) (drive_at r t) past;
}

-- the moments of the first n ticks, n being the number that is given
unfoldable pub moments_to : {E : Type 0} → BenchEngine E → Run → ℕ → List Moment
moments_to b r zero = []
moments_to b r (suc t) =
    let past = moments_to b r t in next_after r.setting (entry_at b r t past) past ∷ past

-- what came in at these ticks
unfoldable pub entries_to : {E : Type 0} → BenchEngine E → Run → ℕ → List Entry
entries_to b r zero = []
entries_to b r (suc t) = entry_at b r t (moments_to b r t) ∷ entries_to b r t
