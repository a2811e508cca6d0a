-- What a tick commands to the engine: level 1's two outputs as the tick before left them in the span, whether
-- the power stages are on, and where a fault holds the plate. Of the tick's own row it depends on one thing,
-- whether it resets the unit; so it is known before the engine has made its step.
use Rattle.std.specs.Prelude.{◌≡◌, false, ◌&&◌, List, length}
use Rattle.eg_num.specs.Drive.{DriveRow, driven}
use Rattle.eg_fault.specs.Faults.{effects}
use Rattle.eg_model.specs.History.{Setting, Entry, drives, Moment}
use Rattle.eg_model.specs.Paths.{both_conduct}
use Rattle.eg_model.specs.Level1.{last_world}
use Rattle.eg_model.specs.Spans.{kind_at, before_at, moments}
use Rattle.eg_tick.specs.declared.commands.Commands.{Commands}

-- what the next tick commands, with this drive row, after these moments of a run
unfoldable pub commands_after : Setting → DriveRow → List Moment → Commands
commands_after s drive past =
    let x = effects s.fault (length past) in
    let before = before_at drive past in
    let world = last_world before in
    record {
      throttle = world.throttle;
      ignition = world.ignition;
      on = drives (kind_at drive past) && both_conduct x before;
      held = x.held_plate;
    }

-- what the tick commands that comes after a history, with this drive row
unfoldable pub commanded_at : Setting → DriveRow → List Entry → Commands
commanded_at s drive h = commands_after s drive (moments s h)

-- The same where that row doesn't reset the unit, whatever else it holds.
unfoldable pub commands_next : Setting → List Entry → Commands
commands_next s h = commanded_at s (driven 0 0 0) h

-- The law on that word: a row that doesn't reset the unit commands just this.
abbrev pub RowsCommandAlike : Type 0
RowsCommandAlike =
    (s : Setting) (drive : DriveRow) (h : List Entry) → drive.reset ≡ false →
    commanded_at s drive h ≡ commands_next s h
