-- What is told as commanded next: the outputs of the row just told, and what the model's next tick uses.
use Rattle.std.proofs.Common.{◌≡◌, ◌∙◌, refl, sym, ap, ◌&&◌, ◌||◌, Bool, true, false, List, [], ◌∷◌, length, subst}
use Rattle.std.specs.Prelude.{if◌then◌else◌}
use Rattle.eg_num.specs.Drive.{DriveRow, driven}
use Rattle.eg_fault.specs.Faults.{effects}
use Rattle.eg_model.specs.History.{Setting, Entry, Drive, Test, drives, Moment}
use Rattle.eg_model.specs.Paths.{both_conduct}
use Rattle.eg_model.specs.Level1.{last_world}
use Rattle.eg_model.specs.Rows.{row_of}
use Rattle.eg_model.specs.Spans.{span_so_far, span_kind, has_passed, kind_at, before_at, moments, next}
use Rattle.eg_model.proofs.SpanLemmas.{length-run_moments, before-begins}
use Rattle.eg_model.proofs.WholeModel.{whole_model}
use Rattle.eg_tick.specs.Advancing.{effects_after}
use Rattle.eg_tick.specs.Commanding.{commands_after, commanded_at, commands_next}
use Rattle.eg_tick.specs.declared.commands.Commands.{Commands}
use Rattle.eg_stream.specs.Used.{HaveOutputsOf, HaveNoOutputs, CommandsAreUsed}
use Rattle.eg_stream.proofs.TakenLemmas.{on-commanded}

-- at the first tick of a span nothing is commanded yet
first-throttle : (last_world []).throttle ≡ 0
unfolding whole_model
first-throttle = refl

first-ignition : (last_world []).ignition ≡ 0
unfolding whole_model
first-ignition = refl

module _ (s : Setting) (h : List Entry) where
  -- where the plate is held there is by how many entries came in
  held : (drive : DriveRow) → (commanded_at s drive h).held ≡ (effects_after s h).held_plate
  unfolding commanded_at commands_after effects_after
  held drive = ap (λ n. (effects s.fault n).held_plate) (length-run_moments s h)

  before : Bool → List Moment
  before reset = if reset || has_passed (moments s h) then [] else span_so_far (moments s h)

  -- what a row commands, by whether it resets the unit
  by_reset : Bool → Commands
  by_reset reset = record {
    throttle = (last_world (before reset)).throttle;
    ignition = (last_world (before reset)).ignition;
    on = drives (if reset then Test else if has_passed (moments s h) then Drive else span_kind (moments s h))
        && both_conduct (effects s.fault (length (moments s h))) (before reset);
    held = (effects s.fault (length (moments s h))).held_plate;
  }

  at_reset : (drive : DriveRow) → drive.reset ≡ true → commanded_at s drive h
      ≡ record { throttle = 0; ignition = 0; on = false; held = (commands_next s h).held }
  unfolding commanded_at commands_next commands_after kind_at before_at before by_reset drives
  at_reset drive is = ap by_reset is
      ∙ λ i. record { throttle = first-throttle i; ignition = first-ignition i; on = false; held = (commands_next s h).held }

  no_outputs : before_at (driven 0 0 0) (moments s h) ≡ [] → HaveNoOutputs (commands_next s h)
  unfolding commanded_at commands_next commands_after
  no_outputs none = record {
    throttle = ap (λ past. (last_world past).throttle) none ∙ first-throttle;
    ignition = ap (λ past. (last_world past).ignition) none ∙ first-ignition;
  }

-- what the next tick finds of the span is as the tick before left it, where the span goes on
goes_on : (s : Setting) (e : Entry) (h : List Entry) → has_passed (moments s (e ∷ h)) ≡ false →
    HaveOutputsOf (row_of (length h) (next s e h)) (commands_next s (e ∷ h))
unfolding commanded_at commands_next commands_after before_at moments next span_so_far last_world row_of
goes_on s e h goes = record { throttle = rw goes refl; ignition = rw goes refl }

has_outputs : (s : Setting) (h : List Entry) (e : Entry) (before : List Entry) → h ≡ e ∷ before → has_passed (moments s h) ≡ false →
    HaveOutputsOf (row_of (length before) (next s e before)) (commands_next s h)
has_outputs s h e before is goes = subst (λ k. HaveOutputsOf (row_of (length before) (next s e before)) (commands_next s k)) (sym is)
    (goes_on s e before (subst (λ k. has_passed (moments s k) ≡ false) is goes))

none_at_first : (s : Setting) (h : List Entry) → h ≡ [] → before_at (driven 0 0 0) (moments s h) ≡ []
unfolding before_at moments has_passed span_so_far
none_at_first s h is = rw is refl

pub commands_are_used : (s : Setting) (h : List Entry) → CommandsAreUsed s h
commands_are_used s h = record {
  on = λ e. sym (on-commanded s e h);
  outputs = has_outputs s h;
  at_first = λ is. no_outputs s h (none_at_first s h is);
  after_test = λ passed. no_outputs s h (before-begins (driven 0 0 0) (moments s h) passed);
  held = held s h;
  at_reset = at_reset s h;
}
