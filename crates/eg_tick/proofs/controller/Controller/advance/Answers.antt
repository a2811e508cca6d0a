use Rattle.std.proofs.Common.{◌≡◌, ◌∙◌, refl, sym, ap, ap₂, subst, inl, inr, ◌+◌, ◌<◌, Some, None, List, ◌∷◌, length, slice_index, true, false, arith}
use Rattle.std.specs.Option.{option_copied}
use Rattle.eg_answer.specs.declared.rules.Rules.{Rules}
use Rattle.eg_torque.specs.Permit.{drive_permits}
use Rattle.eg_torque.specs.Ramp.{ramped}
use Rattle.eg_fault.specs.Effects.{asked_at}
use Rattle.eg_record.specs.declared.row.Row.{Row}
use Rattle.eg_agree.specs.Doings.{phase_at}
use Rattle.eg_fault.specs.Faults.{effects, IsNoneOrValid}
use Rattle.eg_guard.specs.Memory.{AreWords}
use Rattle.eg_guard.proofs.KeepsLemmas.{clash, keeps_then}
use Rattle.eg_level2.specs.Words.{words_of, AreWithin}
use Rattle.eg_level2.specs.Inputs.{Level2Parts, IsLookup}
use Rattle.eg_model.specs.History.{Setting, Entry}
use Rattle.eg_model.specs.Moments.{demand_at}
use Rattle.eg_model.specs.Spans.{next}
use Rattle.eg_model.specs.Rows.{row_of}
use Rattle.eg_tick.specs.Kept.{Kept}
use Rattle.eg_tick.specs.Stands.{kind_of, HoldsMonitor, Stands, IsController}
use Rattle.eg_tick.specs.declared.span.Span.{Span}
use Rattle.eg_tick.specs.Entering.{span_from}
use Rattle.eg_tick.specs.Advancing.{effects_after, entry_of, world_before}
use Rattle.eg_turns.specs.declared.working.Task.{Task}
use Rattle.eg_tick.proofs.StandsLemmas.{Enters, entered, enters, row_by, next_stands}
use Rattle.eg_tick.proofs.WorkLemmas.{works-served, works-step}
use Rattle.eg_tick.proofs.ElseLemmas.{phase-else, asked-else, readings-else, comes-else}
use Rattle.eg_tick.proofs.AdvanceLemmas.{of_setting, held-within, within, few-in, period-in, later-in, stepped, left_whole, ran_out, rests, Advance, settled, makes, row-told, step-told}
use Rattle.eg_tick.proofs.controller.Controller.advance.Given.{Over}
use Rattle.eg_tick.proofs.controller.Controller.advance.Goals as goal

pub enter-requires : goal.enter-requires
enter-requires g c =
    let some = c.self.invariant.keeps.stands c.if-self.false in
    record {
      are_words = some.2.are_words;
      mirrored = some.2.span.level2.mirrored;
      within = subst (λ (p : Level2Parts). AreWithin p.rules (words_of (g.M.Guarded.shows c.self.inside.memory).words)) (sym c.self.invariant.parts)
          (within _ some.0 some.1 c.self.invariant.keeps.accepted some.2);
      decoded = c.self.invariant.decoded c.if-self.false;
    }

pub next_tick-requires : goal.next_tick-requires
next_tick-requires g c =
    few-in _ (c.self.invariant.keeps.stands c.if-self.false) c.args.drive.now _ c.enter.new.span c.enter.new.level1.registers (g.M.Guarded.shows c.enter.new.memory)
    c.reset.ensures.reset c.in_ok-enter.ensures.holds (subst (λ v. v < 20000) (sym (ap (λ v. v.kept.ticks) c.self.view_is)) c.requires.fewer)

pub step_engine-requires : goal.step_engine-requires
step_engine-requires g c x is =
    held-within c.self.inside.fault c.self.inside.ticks x c.self.invariant.keeps.fault
    (subst (λ f. (effects f c.self.inside.ticks).held_plate ≡ Some x) c.as_ref-fault.ensures.value
    (sym (c.held-held_plate.ensures ∙ c.fault_beyond_levels-other.ensures.same.held_plate) ∙ is))

pub overflow_cast-task : goal.overflow_cast-task
overflow_cast-task g c =
    let few = few-in _ (c.self.invariant.keeps.stands c.if-self.false) c.args.drive.now _ c.enter.new.span c.enter.new.level1.registers (g.M.Guarded.shows c.enter.new.memory)
    c.reset.ensures.reset c.in_ok-enter.ensures.holds (subst (λ v. v < 20000) (sym (ap (λ v. v.kept.ticks) c.self.view_is)) c.requires.fewer) in
    omega (arith, few)

pub judge-judged-requires-clause-period : goal.judge-judged-requires-clause-period
judge-judged-requires-clause-period g c tame =
    period-in _ (c.self.invariant.keeps.stands c.if-self.false) c.args.drive.now _ c.enter.new.span c.enter.new.level1.registers (g.M.Guarded.shows c.enter.new.memory)
    c.reset.ensures.reset c.in_ok-enter.ensures.holds (subst (λ f. (effects f c.self.inside.ticks).wild ≡ None) c.as_ref-fault.ensures.value
    (sym c.fault_beyond_levels-other.ensures.same.wild ∙ tame))

pub judge-judged-requires-clause-later : goal.judge-judged-requires-clause-later
judge-judged-requires-clause-later g c tame =
    later-in _ (c.self.invariant.keeps.stands c.if-self.false) c.args.drive.now _ c.enter.new.span c.enter.new.level1.registers (g.M.Guarded.shows c.enter.new.memory)
    c.reset.ensures.reset c.in_ok-enter.ensures.holds (subst (λ f. (effects f c.self.inside.ticks).wild ≡ None) c.as_ref-fault.ensures.value
    (sym c.fault_beyond_levels-other.ensures.same.wild ∙ tame))

pub note-requires : goal.note-requires
note-requires g c =
    few-in _ (c.self.invariant.keeps.stands c.if-self.false) c.args.drive.now _ c.enter.new.span c.enter.new.level1.registers (g.M.Guarded.shows c.enter.new.memory)
    c.reset.ensures.reset c.in_ok-enter.ensures.holds (subst (λ v. v < 20000) (sym (ap (λ v. v.kept.ticks) c.self.view_is)) c.requires.fewer)

-- ---- the tick that was made ----

-- the controller before the tick, as the tick begins in its span, and after it
abbrev before : (g : Over) → goal.After-row g → Kept
before g c = record {
  cal = c.self.inside.calibration;
  fault = c.self.inside.fault;
  ticks = c.self.inside.ticks;
  span = c.self.inside.span;
  memory = g.M.Guarded.shows c.self.inside.memory;
  registers = c.self.inside.level1.registers;
  trap = c.self.inside.trap;
  kt = g.E.Engine.kt c.self.inside.engine;
  shown = g.E.Engine.shows c.self.inside.engine;
  lost = c.self.inside.lost;
}

abbrev old : (g : Over) → goal.After-row g → Kept
old g c = entered (before g c) c.enter.new.span c.enter.new.level1.registers (g.M.Guarded.shows c.enter.new.memory)

abbrev new : (g : Over) → goal.After-row g → Kept
new g c = record {
  cal = c.self.inside.calibration;
  fault = c.self.inside.fault;
  ticks = c.self.inside.ticks + 1;
  span = c.note.new.self;
  memory = g.M.Guarded.shows c.work.new.memory;
  registers = c.work.new.level1.registers;
  trap = c.note_trap.new.trap;
  kt = g.E.Engine.kt c.step_engine.new.engine;
  shown = g.E.Engine.shows c.step_engine.new.engine;
  lost = false;
}

abbrev task : (g : Over) → goal.After-row g → Task
task g c = record {
  tick = c.self.inside.ticks;
  local = c.enter.new.span.local;
  phase = c.phase.result;
  asked = c.question-asked.result;
  readings = c.readings.result;
  prepared = c.prepared.result;
  slices = c.args.slices.now;
}

are_words : (g : Over) (c : goal.After-row g) → AreWords (g.M.Guarded.shows c.work.new.memory).words
are_words g c = c.work.ensures.keeps.are_words (c.enter.ensures.keeps.are_words (c.self.invariant.keeps.stands c.if-self.false).2.are_words)

-- what was looked up stands for what the calibration permits
looked_up : (g : Over) (c : goal.After-row g) → IsLookup (old g c).cal.rules c.look_up-lookup.result
looked_up g c = subst (λ (rules : Rules). IsLookup rules c.look_up-lookup.result) c.rules-rules.ensures.rules
    c.look_up-lookup.ensures.lookup

-- what the driver demands, by what the permit table says of the effective drive row
demands : (g : Over) (c : goal.After-row g) → c.demand.result ≡ demand_at (old g c).cal c.args.drive.now
unfolding demand_at
demands g c = c.demand.ensures.demand (old g c).cal (looked_up g c)
    ∙ ap (drive_permits (old g c).cal.rules.permit)
    (c.effective-effective.ensures (old g c).cal (sym c.brake-brake.ensures.brake))

-- the permitted torque: that, or down the ramp from the tick before in the span
permitted : (g : Over) (c : goal.After-row g) →
    c.ramped.result ≡ ramped (old g c).cal.rules.fall (old g c).span.limit (demand_at (old g c).cal c.args.drive.now)
permitted g c = c.ramped.ensures ∙ ap₂ (λ (rules : Rules) demanded. ramped rules.fall (old g c).span.limit demanded)
    c.rules-rules.ensures.rules (demands g c)

valid : (g : Over) (c : goal.After-row g) → IsNoneOrValid (option_copied c.as_ref-fault.result)
valid g c = subst IsNoneOrValid (sym c.as_ref-fault.ensures.value) c.self.invariant.keeps.fault

advance : (g : Over) (c : goal.After-row g) → Advance (old g c) (new g c) c.args.drive.now c.args.slices.now c.self.inside.fault c.self.inside.level2
    c.at.result c.next_tick.result (task g c) c.in_ok-step.step c.judge-judged.result
advance g c =
    let noted = c.note.ensures in
    let test_ticks = c.self.invariant.test_ticks_are in
    let other = c.fault_beyond_levels-other.ensures.same in
    settled c.as_ref-fault.ensures.value
    (record {
      accepted = c.self.invariant.keeps.accepted;
      parts = c.self.invariant.parts;
      few = subst (λ v. v < 20000) (sym (ap (λ v. v.kept.ticks) c.self.view_is)) c.requires.fewer;
      is_drive = c.reset.ensures.drive;
      path1 = c.at.ensures.path1 ∙ ap (λ conducts. conducts 1 c.enter.new.span.open1) other.conducts;
      path2 = c.at.ensures.path2 ∙ ap (λ conducts. conducts 2 c.enter.new.span.open2) other.conducts;
      on = c.at.ensures.on;
      placed = c.next_tick.ensures.tests;
      fresh = c.next_tick.ensures.fresh;
      testing = c.next_tick.ensures.testing _ test_ticks;
      read = c.next_tick.ensures.reads_back _ test_ticks;
      tick = refl;
      at = refl;
      phase = c.phase.ensures
          ∙ phase-else _ _ _ _ c.enter.new.span.local other
          ∙ ap (λ times. phase_at (kind_of c.enter.new.span.tests) times (effects (option_copied c.as_ref-fault.result) c.self.inside.ticks)
          c.enter.new.span.local) c.times-times.ensures.times;
      asked = c.question-asked.ensures.number
          ∙ asked-else _ _ _ _ c.enter.new.span.local other
          ∙ ap (λ questions. asked_at (effects (option_copied c.as_ref-fault.result) c.self.inside.ticks) c.enter.new.span.monitor.times
          (length questions) c.enter.new.span.local) c.questions-questions.ensures.questions;
      readings = λ e drive shown. c.readings.ensures c.self.inside.calibration e (sym c.brake-brake.ensures.brake) drive shown
          ∙ readings-else c.self.inside.calibration _ _ e other;
      slices = refl;
      served = works-served (valid g c) c.in_ok-step.ensures;
      step = works-step (valid g c) c.in_ok-step.ensures;
      holds = λ kind s x h comes. subst (λ (span : Span). HoldsMonitor kind s span.monitor (x ∷ h)) (sym noted) (c.judge-judged.ensures.holds kind s x h (comes-else other comes));
      tells = λ kind s x h comes. c.judge-judged.ensures.tells kind s x h (comes-else other comes);
      cal = refl;
      fault = refl;
      count = refl;
      are_words = are_words g c;
      tests = ap (λ (span : Span). span.tests) noted;
      local = ap (λ (span : Span). span.local) noted;
      permitted = ap (λ (span : Span). span.limit) noted ∙ permitted g c;
      passed = ap (λ (span : Span). span.passed) noted ∙ c.passes.ensures;
      open1 = ap (λ (span : Span). span.open1) noted;
      open2 = ap (λ (span : Span). span.open2) noted;
      kt = c.step_engine.ensures.kt;
      laws = c.step_engine.ensures.laws;
      off = c.step_engine.ensures.off;
      trap = c.note_trap.ensures;
      not_lost = refl;
    })

-- the row by what the parts say
abbrev told : (g : Over) → goal.After-row g → Row
told g c = row_by c.self.inside.ticks c.args.drive.now (new g c) c.at.result c.next_tick.result c.in_ok-step.step
    c.judge-judged.result

row-by : (g : Over) (c : goal.After-row g) → c.row.result ≡ told g c
row-by g c = c.row.ensures ∙ (λ i. record (told g c) {
  limit = ap (λ (span : Span). span.limit) (sym c.note.ensures) i;
})

abbrev entry : (g : Over) → goal.After-row g → Entry
entry g c = entry_of c.args.drive.now c.args.slices.now (g.E.Engine.shows c.step_engine.new.engine)

-- what the controller stood for, by its parts
was : (g : Over) (c : goal.After-row g) (s : Setting) (h : List Entry) → Stands s c.args.self.now.kept h → Stands s (before g c) h
was g c s h = subst (λ v. Stands s v h) (sym (ap (λ v. v.kept) c.self.view_is))

enter : (g : Over) (c : goal.After-row g) (s : Setting) (h : List Entry) → Stands s (before g c) h → Enters s (old g c) (entry g c) h
unfolding entry_of
enter g c s h stands =
    enters s (before g c) (entry g c) h _ c.enter.new.span c.enter.new.level1.registers (g.M.Guarded.shows c.enter.new.memory) stands
    c.reset.ensures.reset c.in_ok-enter.ensures.holds

goes : (g : Over) (c : goal.After-row g) (s : Setting) (h : List Entry) → Stands s (before g c) h → Stands s (new g c) (entry g c ∷ h)
goes g c = λ s h. of_setting (λ t. Stands t (new g c) (entry g c ∷ h)) (before g c) h
    (λ image so. next_stands _ (entry g c) h (old g c) (new g c) _ _ _ _ (enter g c _ h so)
    (makes (old g c) (new g c) _ _ _ _ _ (task g c) _ _ (advance g c) image h (enter g c _ h so))) s

stood : (g : Over) (c : goal.After-row g) (s : Setting) (h : List Entry) → Stands s c.args.self.now.kept h → Stands s (new g c) (entry g c ∷ h)
stood g c s h stands = goes g c s h (was g c s h stands)

still : (g : Over) (c : goal.After-row g) → IsController (new g c)
still g c =
    let some = c.self.invariant.keeps.stands c.if-self.false in
    record {
      accepted = c.self.invariant.keeps.accepted;
      fault = c.self.invariant.keeps.fault;
      stands = λ held. (some.0, entry g c ∷ some.1, goes g c _ some.1 some.2);
      unsure = λ gone. absurd (let clash : false ≡ true = gone in cc);
    }

steps : (g : Over) (c : goal.After-row g) → g.E.Engine.steps c.args.self.now.engine (slice_index (g.M.Guarded.shows c.enter.new.memory).words 2064)
    (slice_index (g.M.Guarded.shows c.enter.new.memory).words 2065) c.at.result.on (effects c.self.inside.fault c.self.inside.ticks).held_plate c.step_engine.new.engine
steps g c =
    let words = (g.M.Guarded.shows c.enter.new.memory).words in
    let engine : c.self.inside.engine ≡ c.args.self.now.engine = ap (λ v. v.engine) c.self.view_is in
    let held : c.held-held_plate.result ≡ (effects c.self.inside.fault c.self.inside.ticks).held_plate =
    c.held-held_plate.ensures ∙ c.fault_beyond_levels-other.ensures.same.held_plate ∙ ap (λ f. (effects f c.self.inside.ticks).held_plate) c.as_ref-fault.ensures.value in
    subst (λ e. g.E.Engine.steps e (slice_index words 2064) (slice_index words 2065) c.at.result.on (effects c.self.inside.fault c.self.inside.ticks).held_plate
    c.step_engine.new.engine) engine
    (subst (λ o. g.E.Engine.steps c.self.inside.engine (slice_index words 2064) (slice_index words 2065) c.at.result.on o c.step_engine.new.engine) held
    c.step_engine.ensures.steps)

pub invariant_of-self-2 : goal.invariant_of-self-2
invariant_of-self-2 g c = record {
  parts = c.self.invariant.parts;
  test_ticks_are = c.self.invariant.test_ticks_are;
  decoded = λ held. c.in_ok-step.ensures.program;
  looked_up = looked_up g c;
  keeps = still g c;
}

pub returns : goal.returns
returns g c = record {
  stands = stood g c;
  row = λ s h stands. of_setting (λ t. c.row.result ≡ row_of (length h) (next t (entry g c) h)) (before g c) h
      (λ image so. row-told (old g c) (new g c) _ _ _ _ _ (task g c) _ _ (advance g c) image h (enter g c _ h so)
      c.row.result (row-by g c))
      s (was g c s h stands);
  engine = λ s h stands. of_setting (λ t. g.E.Engine.steps c.args.self.now.engine (world_before t c.args.drive.now h).throttle (world_before t c.args.drive.now h).ignition
      (next t (entry g c) h).on (effects_after t h).held_plate c.step_engine.new.engine) (before g c) h
      (λ image so. step-told (old g c) (new g c) _ _ _ _ _ (task g c) _ _ (advance g c) image h (enter g c _ h so)
      (λ throttle ignition on held. g.E.Engine.steps c.args.self.now.engine throttle ignition on held c.step_engine.new.engine)
      (steps g c))
      s (was g c s h stands);
  shown = refl;
  ticks = ap (λ v. v.kept.ticks + 1) c.self.view_is;
  fault = ap (λ v. v.kept.fault) c.self.view_is;
  cal = ap (λ v. v.kept.cal) c.self.view_is;
  keeps = still g c;
  lost = λ lost. sym c.if-self.false ∙ ap (λ v. v.kept.lost) c.self.view_is ∙ lost;
  loses = tt;
  rests = λ lost. absurd (clash (sym c.if-self.false ∙ ap (λ v. v.kept.lost) c.self.view_is ∙ lost));
  same_ticks = tt;
  same_trap = tt;
  sure = λ sure. refl;
  stays_sure = c.work.ensures.keeps.stays_sure ∙ c.enter.ensures.keeps.stays_sure ∙ ap (λ v. v.kept.memory.sure) c.self.view_is;
  same_or_stepped = λ s h stands. tt;
  same_or_begun = tt;
}

pub returns-in_err-enter : goal.returns-in_err-enter
returns-in_err-enter g c = ran_out c.from_residual.result c.from_residual.ensures.0 c.self.view_is c.if-self.false c.self.invariant.keeps refl
    c.in_err-enter.ensures.keeps (λ s h stands. inl (ap (λ v. v.engine) c.self.view_is)) (inl (c.in_err-enter.ensures.stopped ∙ ap (λ v. v.kept.span) c.self.view_is))

pub returns-in_err-step : goal.returns-in_err-step
returns-in_err-step g c =
    let other = c.fault_beyond_levels-other.ensures.same in
    ran_out c.from_residual-in_err-step.result c.from_residual-in_err-step.ensures.0 c.self.view_is c.if-self.false c.self.invariant.keeps refl
    (keeps_then _ _ _ _ _ c.in_ok-enter.ensures.keeps c.in_err-step.ensures.keeps)
    (λ s h stands. stepped g.E.Engine.steps s c.args.drive.now c.args.slices.now _ h c.args.self.now.kept _ c.enter.new.span c.enter.new.level1.registers
    (g.M.Guarded.shows c.enter.new.memory) _ c.at.result _ c.held-held_plate.result _ _ c.step_engine.new.engine (ap (λ v. v.kept) c.self.view_is)
    c.as_ref-fault.ensures.value (ap (λ v. v.engine) c.self.view_is) stands c.reset.ensures.reset c.in_ok-enter.ensures.holds
    (c.at.ensures.path1 ∙ ap (λ conducts. conducts 1 c.enter.new.span.open1) other.conducts)
    (c.at.ensures.path2 ∙ ap (λ conducts. conducts 2 c.enter.new.span.open2) other.conducts)
    c.at.ensures.on (c.held-held_plate.ensures ∙ other.held_plate) c.step_engine.ensures.steps)
    (inr (c.in_ok-enter.ensures.begun ∙ ap₂ span_from c.reset.ensures.reset (ap (λ v. v.kept.span) c.self.view_is)))

pub returns-then-self : goal.returns-then-self
returns-then-self g c = rests c.self.view_is c.if-self.true refl c.self.invariant.keeps

pub invariant_of-self : goal.invariant_of-self
invariant_of-self g c = left_whole c.in_err-enter.ensures.keeps c.self.invariant

pub invariant_of-self-in_err-step : goal.invariant_of-self-in_err-step
invariant_of-self-in_err-step g c = left_whole (keeps_then _ _ _ _ _ c.in_ok-enter.ensures.keeps c.in_err-step.ensures.keeps) c.self.invariant
