use Rattle.std.proofs.Common.{ap, Bool, ◌&&◌, ◌||◌, List, [], length}
use Rattle.std.specs.Prelude.{if◌then◌else◌}
use Rattle.eg_fault.specs.Faults.{effects}
use Rattle.eg_model.specs.History.{Setting, Drive, Test, drives, Moment}
use Rattle.eg_model.specs.Paths.{both_conduct}
use Rattle.eg_model.specs.Level1.{last_world}
use Rattle.eg_model.specs.Spans.{span_so_far, span_kind, has_passed, kind_at, before_at, moments}
use Rattle.eg_tick.specs.Commanding.{commands_after, commanded_at, commands_next}
use Rattle.eg_tick.specs.declared.commands.Commands.{Commands}
use Rattle.eg_tick.proofs.commands.rows_command_alike.Goals as goal

-- what is commanded, by whether the row resets the unit alone
unfoldable before_by : Bool → List Moment → List Moment
before_by reset past = if reset || has_passed past then [] else span_so_far past

unfoldable by_reset : Setting → List Moment → Bool → Commands
by_reset s past reset = record {
  throttle = (last_world (before_by reset past)).throttle;
  ignition = (last_world (before_by reset past)).ignition;
  on = drives (if reset then Test else if has_passed past then Drive else span_kind past)
      && both_conduct (effects s.fault (length past)) (before_by reset past);
  held = (effects s.fault (length past)).held_plate;
}

pub returns : goal.returns
unfolding commanded_at commands_next commands_after kind_at before_at before_by by_reset
returns c s drive h is = ap (by_reset s (moments s h)) is
