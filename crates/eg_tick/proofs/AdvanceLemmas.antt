-- A tick, from what each of its parts says of itself.
use Rattle.std.proofs.Common.{◌≡◌, ◌∙◌, refl, sym, ap, ap₂, subst, inl, inr, ℕ, ◌+◌, ◌≤◌, ◌<◌, not, ◌||◌, ◌&&◌, All, Bool, true, false, IsTrue, None, Option, Some, List, [], ◌∷◌, length, slice_index, arith}
use Rattle.std.specs.Prelude.{◌==◌, Result, Err, IsOk, IsErr}
use Rattle.std.proofs.lemmas.Result.{IfOk-from_err}
use Rattle.std.specs.Option.{option_or}
use Rattle.eg_base.proofs.ResultLemmas.{at_err}
use Rattle.eg_num.specs.Drive.{DriveRow, IsDrive}
use Rattle.eg_plant.specs.Engine.{Shown, KeepsLaws}
use Rattle.eg_torque.specs.Ramp.{ramped}
use Rattle.eg_fault.specs.declared.class.Fault.{Fault}
use Rattle.eg_answer.specs.Periods.{period_of}
use Rattle.eg_fault.specs.Effects.{asked_at}
use Rattle.eg_fault.specs.Faults.{effects, IsNoneOrValid}
use Rattle.eg_fault.specs.Classes.{IsHeldWithin}
use Rattle.eg_fault.proofs.ClassLemmas.{plates_are_held_within}
use Rattle.eg_values.specs.Calibration.{CalibrationParts, IsAccepted}
use Rattle.eg_guard.specs.Memory.{ShownMemory, AreWords, KeepsMemory}
use Rattle.eg_guard.proofs.KeepsLemmas.{clash}
use Rattle.eg_word.specs.declared.registers.Registers.{Registers}
use Rattle.eg_word.specs.declared.instruction.Instruction.{Instruction}
use Rattle.eg_word.specs.World.{World, world_of}
use Rattle.eg_record.specs.declared.row.Row.{Row}
use Rattle.eg_level2.specs.Words.{AreWithin, words_of}
use Rattle.eg_level2.specs.Inputs.{Level2Parts}
use Rattle.eg_level2.specs.declared.lookup.Lookup.{Lookup}
use Rattle.eg_level2.specs.declared.step.Step.{Step}
use Rattle.eg_model.specs.History.{Setting, Entry, Tick, SpanKind, drives}
use Rattle.eg_model.specs.Paths.{is_testing, reads_back}
use Rattle.eg_model.specs.Level1.{last_world}
use Rattle.eg_model.specs.Moments.{demand_at, readings_at, moments_in}
use Rattle.eg_model.specs.Spans.{span_kind, kind_at, moments, next, span_ticks}
use Rattle.eg_model.specs.Premises.{Follows}
use Rattle.eg_model.specs.SpanHistories.{SpanIsHistory}
use Rattle.eg_model.proofs.SpanLemmas.{tick_after, ticks_before, Continues, continues, spans_are_histories}
use Rattle.eg_agree.specs.Doings.{phase_at}
use Rattle.eg_model.specs.Rows.{trap_in, row_of}
use Rattle.eg_agree.specs.Replies.{moment_after}
use Rattle.eg_agree.proofs.HistoryLemmas.{within_law}
use Rattle.eg_tick.specs.Kept.{Kept, ControllerParts}
use Rattle.eg_tick.specs.Stands.{kind_of, Stands, HoldsMonitor, IsController}
use Rattle.eg_tick.specs.Entering.{StaysOrBegins}
use Rattle.eg_tick.specs.Inner.Working.{Serves, Served, IsStep}
use Rattle.eg_tick.specs.Inner.Judging.{ComesNext, Tells}
use Rattle.eg_tick.specs.Inside.{IsWhole}
use Rattle.eg_tick.specs.Advancing.{effects_after, entry_of, world_before, StaysOrSteps, IsTick}
use Rattle.eg_tick.specs.declared.monitoring.Judgement.{Judgement}
use Rattle.eg_tick.specs.declared.paths.Paths.{Paths}
use Rattle.eg_tick.specs.declared.span.SpanTick.{SpanTick}
use Rattle.eg_tick.specs.declared.span.Span.{Span}
use Rattle.eg_turns.specs.declared.working.Task.{Task}
use Rattle.eg_tick.proofs.MonitorLemmas.{span-period, span-later, span-asked}
use Rattle.eg_tick.proofs.StandsLemmas.{Enters, entered, ComesIn, enters, Leads, next-on, Makes, row_by, next_row}

-- ---- the setting of a controller ----

abbrev pub setting_of : Kept → List ℕ → Setting
setting_of c image = record { cal = c.cal; image = image; fault = c.fault }

-- what holds of its setting with each image holds of each setting for which it stands
pub of_setting : (P : Setting → Type 0) (c : Kept) (h : List Entry) → ((image : List ℕ) → Stands (setting_of c image) c h → P (setting_of c image))
    → (s : Setting) → Stands s c h → P s
of_setting P c h each s stands =
    let same : setting_of c s.image ≡ s = (λ i. record { cal = stands.cal i; image = s.image; fault = stands.fault i }) in
    subst P same (each s.image (subst (λ t. Stands t c h) (sym same) stands))

-- ---- where a plate is held ----

-- under a valid fault it is within its range
pub held-within : (fault : Option Fault) (tick x : ℕ) → IsNoneOrValid fault → (effects fault tick).held_plate ≡ Some x → x ≤ 1000
held-within fault tick x valid is = subst IsHeldWithin is (plates_are_held_within fault valid tick)

-- ---- level 2's counters ----

pub within : (c : Kept) (image : List ℕ) (h : List Entry) → IsAccepted c.cal → Stands (setting_of c image) c h → AreWithin c.cal.rules (words_of c.memory.words)
within c image h accepted stands =
    within_law (setting_of c image) accepted (moments_in (span_kind (moments s h)) s (span_ticks s h)) (words_of c.memory.words) stands.span.level2.words
  where
    s : Setting
    s = setting_of c image

-- ---- as a tick begins ----

module _ (s : Setting) (e : Entry) (h : List Entry) (c : Kept) (enter : Enters s c e h) where
  abbrev kind : SpanKind
  kind = kind_at e.drive (moments s h)

  abbrev before : List Tick
  before = ticks_before s e h

  goes : Continues s e h kind before
  goes = continues s e h

  ends : SpanIsHistory s (e ∷ h)
  ends = spans_are_histories s (e ∷ h)

  -- where the span of the tick begins
  pub begin : ℕ
  begin = ends.begin

  pub follows-now : Follows s.fault begin (tick_after s e h ∷ before)
  unfolding begin
  follows-now = subst (Follows s.fault ends.begin) goes.ticks_are ends.follows

  pub placed : begin + length before ≡ length h
  unfolding begin
  placed = let size = ends.size in let long = ap length goes.ticks_are in omega arith

  pub counted : begin + length before ≡ c.ticks
  counted = placed ∙ sym enter.count

  -- the number of the tick in its span
  pub few-local : c.ticks < 20000 → c.span.local < 20000
  few-local few = let count = counted in let local = enter.span.local in omega arith

  follows-before : Follows s.fault begin before
  unfolding Follows
  follows-before = follows-now.1

  pub enters-period : (effects c.fault c.ticks).wild ≡ None → c.span.monitor.verdicts ≡ period_of c.span.monitor.times c.span.local
  enters-period = span-period kind s c begin before enter.cal enter.fault follows-before counted enter.span

  pub enters-later : (effects c.fault c.ticks).wild ≡ None → All (λ heard. heard.tick < c.span.local) c.span.monitor.heard
  enters-later = span-later kind s c begin before enter.cal enter.fault follows-before counted enter.span

  pub enters-asked : asked_at (effects c.fault c.ticks) c.span.monitor.times (length c.cal.questions) c.span.local
      ≡ asked_at (effects s.fault c.ticks) s.cal.times (length s.cal.questions) (length before)
  enters-asked = span-asked kind s c begin before enter.cal enter.fault follows-before counted enter.span

-- the same of a controller that stands for some history, and has come into the span of a tick with this drive row
module _ (c : Kept) (some : (image : List ℕ) × (h : List Entry) × Stands (setting_of c image) c h) (drive : DriveRow) (reset : Bool)
    (span : Span) (m : Registers) (memory : ShownMemory) (resets : reset ≡ drive.reset) (comes_in : ComesIn c reset span m memory) where
  abbrev row-in : Entry
  row-in = record { drive = drive; slices = []; shown = c.shown }

  come : Enters (setting_of c some.0) (entered c span m memory) row-in some.1
  come = enters (setting_of c some.0) c row-in some.1 reset span m memory some.2 resets comes_in

  pub few-in : c.ticks < 20000 → span.local < 20000
  few-in few = few-local (setting_of c some.0) row-in some.1 (entered c span m memory) come few

  pub period-in : (effects c.fault c.ticks).wild ≡ None → span.monitor.verdicts ≡ period_of span.monitor.times span.local
  period-in = enters-period (setting_of c some.0) row-in some.1 (entered c span m memory) come

  pub later-in : (effects c.fault c.ticks).wild ≡ None → All (λ heard. heard.tick < span.local) span.monitor.heard
  later-in = enters-later (setting_of c some.0) row-in some.1 (entered c span m memory) come

-- ---- the tick ----

four : (P : ℕ → ℕ → Bool → Option ℕ → Type 0) {a a′ b b′ : ℕ} {o o′ : Bool} {k k′ : Option ℕ} → a ≡ a′ → b ≡ b′ → o ≡ o′ → k ≡ k′ → P a b o k → P a′ b′ o′ k′
four P {a} {a′} {b} {b′} {o} {o′} {k} {k′} first second third fourth told =
    subst (λ n. P n b′ o′ k′) first (subst (λ n. P a n o′ k′) second (subst (λ n. P a b n k′) third (subst (λ n. P a b o n) fourth told)))

-- The paths at a tick, and the engine's step: by the commands as the tick before left them, or by none where a span begins.
module _ (s : Setting) (e : Entry) (h : List Entry) (old : Kept) (paths : Paths) (enter : Enters s old e h)
    (path1 : paths.path1 ≡ (effects old.fault old.ticks).conducts 1 old.span.open1)
    (path2 : paths.path2 ≡ (effects old.fault old.ticks).conducts 2 old.span.open2)
    (on : paths.on ≡ (drives (kind_of old.span.tests) && (paths.path1 && paths.path2))) where
  effects-in : effects old.fault old.ticks ≡ (tick_after s e h).effects
  unfolding tick_after
  effects-in = ap₂ effects enter.fault enter.count

  leads-in : Leads (tick_after s e h) old paths
  leads-in = record {
    path1 = path1 ∙ ap (λ y. y.conducts 1 old.span.open1) effects-in;
    path2 = path2 ∙ ap (λ y. y.conducts 2 old.span.open2) effects-in;
    on = on;
  }

  world-in : world_of old.registers old.memory.words ≡ world_before s e.drive h
  unfolding world_before
  world-in = enter.span.level1.world ∙ ap last_world (sym (continues s e h).before_are)

  pub step-begun : (P : ℕ → ℕ → Bool → Option ℕ → Type 0) → P (slice_index old.memory.words 2064) (slice_index old.memory.words 2065) paths.on (effects old.fault old.ticks).held_plate
      → P (world_before s e.drive h).throttle (world_before s e.drive h).ignition (next s e h).on (effects_after s h).held_plate
  unfolding effects_after world_of
  step-begun P told =
      let throttle : slice_index old.memory.words 2064 ≡ (world_before s e.drive h).throttle = ap (λ (world : World). world.throttle) world-in in
      let ignition : slice_index old.memory.words 2065 ≡ (world_before s e.drive h).ignition = ap (λ (world : World). world.ignition) world-in in
      let held : (effects old.fault old.ticks).held_plate ≡ (effects_after s h).held_plate = ap₂ (λ f t. (effects f t).held_plate) enter.fault enter.count in
      four P throttle ignition (next-on s e h old paths enter leads-in) held told

-- where memory ran out behind it: the engine made its one step
pub stepped : {E : Type 0} (steps : E → ℕ → ℕ → Bool → Option ℕ → E → Type 0) (s : Setting) (drive : DriveRow) (slices : List ℕ) (shown : Shown)
    (h : List Entry) (now before : Kept) (span : Span) (m : Registers) (memory : ShownMemory) (reset : Bool) (paths : Paths) (under : Option Fault) (held : Option ℕ)
    (engine old new : E) → before ≡ now → under ≡ before.fault → engine ≡ old → Stands s now h → reset ≡ drive.reset → ComesIn before reset span m memory →
    paths.path1 ≡ (effects under before.ticks).conducts 1 span.open1 → paths.path2 ≡ (effects under before.ticks).conducts 2 span.open2 →
    paths.on ≡ (drives (kind_of span.tests) && (paths.path1 && paths.path2)) → held ≡ (effects under before.ticks).held_plate →
    steps engine (slice_index memory.words 2064) (slice_index memory.words 2065) paths.on held new →
    StaysOrSteps steps s drive slices shown h old new
unfolding entry_of
stepped steps s drive slices shown h now before span m memory reset paths under held engine old new same is_under is_old stands resets comes path1 path2 on is_held told =
    let e : Entry = entry_of drive slices shown in
    let throttle = slice_index memory.words 2064 in
    let ignition = slice_index memory.words 2065 in
    inr (step-begun s e h (entered before span m memory) paths
    (enters s before e h reset span m memory (subst (λ k. Stands s k h) (sym same) stands) resets comes)
    (path1 ∙ ap (λ f. (effects f before.ticks).conducts 1 span.open1) is_under) (path2 ∙ ap (λ f. (effects f before.ticks).conducts 2 span.open2) is_under) on
    (λ throttle ignition on held. steps old throttle ignition on held new)
    (subst (λ x. steps x throttle ignition paths.on (effects before.fault before.ticks).held_plate new) is_old
    (subst (λ k. steps engine throttle ignition paths.on k new) (is_held ∙ ap (λ f. (effects f before.ticks).held_plate) is_under) told)))

-- A tick in which memory ran out, whatever the call answers.
pub unmade : {E X : Type 0} {shows : E → Shown} {steps : E → ℕ → ℕ → Bool → Option ℕ → E → Type 0} {drive : DriveRow} {slices : List ℕ} {old new : ControllerParts E}
    (result : Result Row X) → IsErr result → new.kept.shown ≡ shows new.engine → new.kept.fault ≡ old.kept.fault → new.kept.cal ≡ old.kept.cal → IsController new.kept
    → new.kept.lost ≡ true → (old.kept.lost ≡ true → new ≡ old) → new.kept.ticks ≡ old.kept.ticks → new.kept.trap ≡ old.kept.trap
    → (IsTrue old.kept.memory.sure → IsOk result) → new.kept.memory.sure ≡ old.kept.memory.sure
    → ((s : Setting) (h : List Entry) → Stands s old.kept h → StaysOrSteps steps s drive slices new.kept.shown h old.engine new.engine)
    → StaysOrBegins drive.reset old.kept.span new.kept.span → IsTick shows steps drive slices old new result
unmade result is shown fault cal keeps lost rests ticks trap sure stays_sure stepped begun = record {
  stands = λ s h stands. IfOk-from_err result _ is;
  row = λ s h stands. IfOk-from_err result _ is;
  engine = λ s h stands. IfOk-from_err result _ is;
  shown = shown;
  ticks = IfOk-from_err result _ is;
  fault = fault;
  cal = cal;
  keeps = keeps;
  lost = λ lost. is;
  loses = at_err result lost;
  rests = rests;
  same_ticks = at_err result ticks;
  same_trap = at_err result trap;
  sure = sure;
  stays_sure = stays_sure;
  same_or_stepped = λ s h stands. at_err result (stepped s h stands);
  same_or_begun = at_err result begun;
}

-- what is left of a controller once memory has run out,
abbrev left : Kept → Span → Registers → ShownMemory → ℕ → Shown → Kept
left before span m memory kt shown = record before { span = span; memory = memory; registers = m; kt = kt; shown = shown; lost = true }

left_unsure : {T F : Type 0} {a b : ShownMemory} {e : F} (sure : Bool) → b.sure ≡ sure → (let refused : Result T F = Err e in KeepsMemory a b refused) → b.sure ≡ false
left_unsure false is keeps = is
left_unsure true is keeps = absurd (clash (keeps.sure (sym keeps.stays_sure ∙ is)))

-- is one still,
pub left_controller : {T F : Type 0} {before : Kept} {span : Span} {m : Registers} {memory : ShownMemory} {kt : ℕ} {shown : Shown} {e : F}
    → (let refused : Result T F = Err e in KeepsMemory before.memory memory refused) → IsController before → IsController (left before span m memory kt shown)
left_controller {memory = memory} memory_keeps keeps = record {
  accepted = keeps.accepted;
  fault = keeps.fault;
  stands = λ held. absurd (clash (sym held));
  unsure = λ lost. left_unsure memory.sure refl memory_keeps;
}

-- and whole
pub left_whole : {T F : Type 0} {before : Kept} {span : Span} {m : Registers} {memory : ShownMemory} {kt : ℕ} {shown : Shown} {e : F} {cal : CalibrationParts}
    {level2 : Level2Parts} {test_ticks : ℕ} {program again : List Instruction} {lookup : Lookup}
    → (let refused : Result T F = Err e in KeepsMemory before.memory memory refused) → IsWhole cal level2 test_ticks program lookup before
    → IsWhole cal level2 test_ticks again lookup (left before span m memory kt shown)
left_whole memory_keeps whole = record {
  parts = whole.parts;
  test_ticks_are = whole.test_ticks_are;
  decoded = λ held. absurd (clash (sym held));
  looked_up = whole.looked_up;
  keeps = left_controller memory_keeps whole.keeps;
}

-- The same from what memory ran out in: `before` is the controller as it was, and its span, level 1's machine, memory and engine are these then.
pub ran_out : {E X T F : Type 0} {shows : E → Shown} {steps : E → ℕ → ℕ → Bool → Option ℕ → E → Type 0} {drive : DriveRow} {slices : List ℕ}
    {before old : ControllerParts E} {engine : E} {span : Span} {m : Registers} {memory : ShownMemory} {kt : ℕ} {shown : Shown} {e : F} (result : Result Row X)
    → IsErr result → before ≡ old → before.kept.lost ≡ false → IsController before.kept → shown ≡ shows engine
    → (let refused : Result T F = Err e in KeepsMemory before.kept.memory memory refused)
    → ((s : Setting) (h : List Entry) → Stands s old.kept h → StaysOrSteps steps s drive slices shown h old.engine engine)
    → StaysOrBegins drive.reset old.kept.span span
    → IsTick shows steps drive slices old (record { engine = engine; kept = left before.kept span m memory kt shown }) result
ran_out result is same held keeps shown memory_keeps steps begun =
    unmade result is shown (ap (λ c. c.kept.fault) same) (ap (λ c. c.kept.cal) same) (left_controller memory_keeps keeps)
    refl (λ lost. absurd (clash (sym held ∙ ap (λ c. c.kept.lost) same ∙ lost)))
    (ap (λ c. c.kept.ticks) same) (ap (λ c. c.kept.trap) same)
    (λ sure. absurd (clash (memory_keeps.sure (ap (λ c. c.kept.memory.sure) same ∙ sure))))
    (memory_keeps.stays_sure ∙ ap (λ c. c.kept.memory.sure) same) steps begun

-- a tick after memory has run out changes nothing
pub rests : {E X : Type 0} {shows : E → Shown} {steps : E → ℕ → ℕ → Bool → Option ℕ → E → Type 0} {drive : DriveRow} {slices : List ℕ}
    {before old : ControllerParts E} {x : X} → before ≡ old → before.kept.lost ≡ true → before.kept.shown ≡ shows before.engine → IsController before.kept
    → (let refused : Result Row X = Err x in IsTick shows steps drive slices old old refused)
rests {X = X} {shows = shows} {steps = steps} {drive = drive} {slices = slices} {x = x} same lost shown keeps =
    subst (λ c. (let refused : Result Row X = Err x in IsTick shows steps drive slices c c refused)) same
    (unmade (Err x) refl shown refl refl keeps lost (λ gone. refl) refl refl (λ sure. absurd (clash (sym (keeps.unsure lost) ∙ sure))) refl
    (λ s h stands. inl refl) (inl refl))

pub refused : {E X : Type 0} {shows : E → Shown} {steps : E → ℕ → ℕ → Bool → Option ℕ → E → Type 0} {drive : DriveRow} {slices : List ℕ} {old new : ControllerParts E} {x : X}
    (result : Result Row X) → IsErr result → (let refused : Result Row X = Err x in IsTick shows steps drive slices old new refused)
    → IsTick shows steps drive slices old new result
refused result is tick = unmade result is tick.shown tick.fault tick.cal tick.keeps tick.loses tick.rests tick.same_ticks tick.same_trap
    (λ sure. absurd (clash (tick.sure sure))) tick.stays_sure tick.same_or_stepped tick.same_or_begun

-- What the parts of a tick say, where `old` is the controller as it begins: `under` is the fault, and level 2 is `made` of these parts.
pub record Advance (old new : Kept) (drive : DriveRow) (budgets : List ℕ) (under : Option Fault) (made : Level2Parts)
    (paths : Paths) (span_tick : SpanTick) (task : Task) (done : Step) (judged : Judgement) : Type 0 where
  pub accepted : IsAccepted old.cal
  pub parts : made ≡ record { rules = old.cal.rules; questions = old.cal.questions }
  pub few : old.ticks < 20000
  pub is_drive : IsDrive drive
  pub path1 : paths.path1 ≡ (effects under old.ticks).conducts 1 old.span.open1
  pub path2 : paths.path2 ≡ (effects under old.ticks).conducts 2 old.span.open2
  pub on : paths.on ≡ (drives (kind_of old.span.tests) && (paths.path1 && paths.path2))
  pub placed : span_tick.tests ≡ old.span.tests
  pub fresh : span_tick.fresh ≡ (old.span.local == 0)
  pub testing : span_tick.testing ≡ is_testing (kind_of old.span.tests) old.cal.times old.span.local
  pub read : span_tick.reads_back ≡ reads_back (kind_of old.span.tests) old.cal.times old.span.local
  pub tick : task.tick ≡ old.ticks
  pub at : task.local ≡ old.span.local
  pub phase : task.phase ≡ phase_at (kind_of old.span.tests) old.cal.times (effects under old.ticks) old.span.local
  pub asked : task.asked ≡ asked_at (effects under old.ticks) old.span.monitor.times (length old.cal.questions) old.span.local
  pub readings : (e : Entry) → e.drive ≡ drive → e.shown ≡ new.shown → task.readings ≡ readings_at old.cal (effects under old.ticks) e
  pub slices : task.slices ≡ budgets
  pub served : (kind : SpanKind) (s : Setting) (x : Tick) (h : List Tick) → Serves kind s x h made under task old.registers old.memory.words
      → Served kind s x h new.registers new.memory.words
  pub step : (kind : SpanKind) (s : Setting) (x : Tick) (h : List Tick) → Serves kind s x h made under task old.registers old.memory.words
      → IsStep kind s x h done
  pub holds : (kind : SpanKind) (s : Setting) (x : Tick) (h : List Tick)
      → ComesNext kind s under old.ticks old.span.local done.answer old.span.monitor x h → HoldsMonitor kind s new.span.monitor (x ∷ h)
  pub tells : (kind : SpanKind) (s : Setting) (x : Tick) (h : List Tick)
      → ComesNext kind s under old.ticks old.span.local done.answer old.span.monitor x h → Tells judged (moment_after kind s x h)
  pub cal : new.cal ≡ old.cal
  pub fault : new.fault ≡ old.fault
  pub count : new.ticks ≡ old.ticks + 1
  pub are_words : AreWords new.memory.words
  pub tests : new.span.tests ≡ old.span.tests
  pub local : new.span.local ≡ old.span.local + 1
  pub permitted : new.span.limit ≡ ramped old.cal.rules.fall old.span.limit (demand_at old.cal drive)
  pub passed : new.span.passed ≡ (span_tick.reads_back && not (paths.path1 || paths.path2))
  pub open1 : new.span.open1 ≡ (done.open_path || old.span.open1)
  pub open2 : new.span.open2 ≡ ((judged.confirms || judged.opens) || old.span.open2)
  pub kt : new.kt ≡ old.kt
  pub laws : KeepsLaws new.kt new.shown
  pub off : paths.on ≡ false → new.shown.torque ≡ 0
  pub trap : new.trap ≡ option_or old.trap (trap_in new.registers.state old.ticks)
  pub not_lost : new.lost ≡ false

-- the same with the controller's own fault
pub settled : {old new : Kept} {drive : DriveRow} {budgets : List ℕ} {under : Option Fault} {made : Level2Parts} {paths : Paths} {span_tick : SpanTick} {task : Task}
    {done : Step} {judged : Judgement} → under ≡ old.fault → Advance old new drive budgets under made paths span_tick task done judged
    → Advance old new drive budgets old.fault made paths span_tick task done judged
settled {old} {new} {drive} {budgets} {under} {made} {paths} {span_tick} {task} {done} {judged} same =
    subst (λ fault. Advance old new drive budgets fault made paths span_tick task done judged) same

module _ (old new : Kept) (drive : DriveRow) (budgets : List ℕ) (made : Level2Parts) (paths : Paths) (span_tick : SpanTick) (task : Task) (done : Step)
    (judged : Judgement) (advance : Advance old new drive budgets old.fault made paths span_tick task done judged) (image : List ℕ) (h : List Entry)
    (enter : Enters (setting_of old image) old (entry_of drive budgets new.shown) h) where
  abbrev s : Setting
  s = setting_of old image

  abbrev e : Entry
  e = entry_of drive budgets new.shown

  abbrev kind-now : SpanKind
  kind-now = kind_at e.drive (moments s h)

  abbrev x : Tick
  x = tick_after s e h

  abbrev span-now : List Tick
  span-now = ticks_before s e h

  -- what depends on the tick of the run, and on the tick of the span
  effects-now : effects old.fault old.ticks ≡ x.effects
  unfolding tick_after
  effects-now = ap (effects old.fault) enter.count

  readings-now : task.readings ≡ readings_at s.cal x.effects x.entry
  unfolding tick_after entry_of
  readings-now = advance.readings e refl refl ∙ ap (λ t. readings_at old.cal (effects old.fault t) e) enter.count

  slices-now : x.entry.slices ≡ task.slices
  unfolding tick_after entry_of
  slices-now = sym advance.slices

  asked-now : task.asked ≡ asked_at x.effects s.cal.times (length s.cal.questions) (length span-now)
  unfolding tick_after
  asked-now = advance.asked ∙ enters-asked s e h old enter ∙ ap (λ t. asked_at (effects old.fault t) s.cal.times (length s.cal.questions) (length span-now)) enter.count

  serves : Serves kind-now s x span-now made old.fault task old.registers old.memory.words
  serves = record {
    accepted = advance.accepted;
    parts = advance.parts;
    fault = refl;
    begin = begin s e h old enter;
    follows = follows-now s e h old enter;
    tick = advance.tick ∙ sym (counted s e h old enter);
    task = record {
      local = advance.at ∙ enter.span.local;
      phase = advance.phase ∙ ap₂ (λ k l. phase_at k old.cal.times (effects old.fault old.ticks) l) enter.span.kind_is enter.span.local
          ∙ ap (λ y. phase_at kind-now old.cal.times y (length span-now)) effects-now;
      asked = asked-now;
      readings = readings-now;
      slices = slices-now;
    };
    short = let few = advance.few in let count = counted s e h old enter in omega arith;
    level1 = enter.span.level1;
    level2 = enter.span.level2;
  }

  steps : IsStep kind-now s x span-now done
  steps = advance.step kind-now s x span-now serves

  comes : ComesNext kind-now s old.fault old.ticks old.span.local done.answer old.span.monitor x span-now
  comes = record {
    wild = ap (λ y. y.wild) effects-now;
    opens = ap (λ y. y.opens) effects-now;
    begin = begin s e h old enter;
    follows = follows-now s e h old enter;
    number_in_span = sym enter.span.local;
    marked = steps.mark;
    holds = enter.span.monitor;
  }

  shown-now : x.entry.shown ≡ new.shown
  unfolding tick_after entry_of
  shown-now = refl

  drive-now : IsDrive x.entry.drive
  unfolding tick_after entry_of
  drive-now = advance.is_drive

  permitted-now : new.span.limit ≡ ramped s.cal.rules.fall old.span.limit (demand_at s.cal x.entry.drive)
  unfolding tick_after entry_of
  permitted-now = advance.permitted

  pub makes : Makes kind-now s x span-now old new paths span_tick done judged
  makes = record {
    cal = advance.cal;
    fault = advance.fault;
    count = advance.count;
    are_words = advance.are_words;
    leads = leads-in s e h old paths enter advance.path1 advance.path2 advance.on;
    placed = advance.placed;
    fresh = advance.fresh;
    testing = advance.testing;
    read = advance.read;
    served = advance.served kind-now s x span-now serves;
    step = steps;
    judged = advance.tells kind-now s x span-now comes;
    monitor = advance.holds kind-now s x span-now comes;
    tests = advance.tests;
    local = advance.local;
    permitted = permitted-now;
    passed = advance.passed;
    open1 = advance.open1;
    open2 = advance.open2;
    kt = advance.kt;
    drive = drive-now;
    shown = shown-now;
    laws = advance.laws;
    off = advance.off;
    trap = advance.trap;
    not_lost = advance.not_lost;
  }

  -- its row is the model's
  pub row-told : (row : Row) → row ≡ row_by old.ticks drive new paths span_tick done judged → row ≡ row_of (length h) (next s e h)
  unfolding entry_of
  row-told row is = next_row s e h old new paths span_tick done judged enter makes row is

  pub step-told : (P : ℕ → ℕ → Bool → Option ℕ → Type 0) → P (slice_index old.memory.words 2064) (slice_index old.memory.words 2065) paths.on (effects old.fault old.ticks).held_plate
      → P (world_before s drive h).throttle (world_before s drive h).ignition (next s e h).on (effects_after s h).held_plate
  unfolding entry_of
  step-told = step-begun s e h old paths enter advance.path1 advance.path2 advance.on
