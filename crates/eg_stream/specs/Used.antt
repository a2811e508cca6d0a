-- What is told as commanded next (C88, F35) is what the model's next tick uses.
use Rattle.std.specs.Prelude.{◌≡◌, true, false, List, [], ◌∷◌, length}
use Rattle.eg_num.specs.Drive.{DriveRow}
use Rattle.eg_record.specs.declared.row.Row.{Row}
use Rattle.eg_model.specs.History.{Setting, Entry}
use Rattle.eg_model.specs.Spans.{has_passed, moments, next}
use Rattle.eg_model.specs.Rows.{row_of}
use Rattle.eg_tick.specs.Advancing.{effects_after}
use Rattle.eg_tick.specs.Commanding.{commanded_at, commands_next}
use Rattle.eg_tick.specs.declared.commands.Commands.{Commands}

pub record HaveOutputsOf (row : Row) (commands : Commands) : Type 0 where
  pub throttle : commands.throttle ≡ row.throttle
  pub ignition : commands.ignition ≡ row.ignition

pub record HaveNoOutputs (commands : Commands) : Type 0 where
  pub throttle : commands.throttle ≡ 0
  pub ignition : commands.ignition ≡ 0

-- C88, F35, of the tick after this history. (That a row which doesn't reset the unit commands what was told
-- is `RowsCommandAlike` of `eg_tick`.)
pub record CommandsAreUsed (s : Setting) (h : List Entry) : Type 0 where
  -- the stages are on as at the tick, whatever comes in besides its drive row
  pub on : (e : Entry) → (commanded_at s e.drive h).on ≡ (next s e h).on
  -- Unless a span begins with the tick, the outputs are those of the row just told, which is that of e after
  -- `before`. If a span begins, at tick 0 or after a passed test, there are none.
  pub outputs : (e : Entry) (before : List Entry) → h ≡ e ∷ before → has_passed (moments s h) ≡ false →
      HaveOutputsOf (row_of (length before) (next s e before)) (commands_next s h)
  pub at_first : h ≡ [] → HaveNoOutputs (commands_next s h)
  pub after_test : has_passed (moments s h) ≡ true → HaveNoOutputs (commands_next s h)
  -- where the fault holds the plate, if it does
  pub held : (drive : DriveRow) → (commanded_at s drive h).held ≡ (effects_after s h).held_plate
  -- F35: a row that resets the unit commands nothing, and the plate is held where it was told
  pub at_reset : (drive : DriveRow) → drive.reset ≡ true → commanded_at s drive h
      ≡ record { throttle = 0; ignition = 0; on = false; held = (commands_next s h).held }
