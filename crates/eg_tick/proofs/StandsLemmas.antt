-- From what a controller stands for before a tick to what it stands for after it.
use Rattle.std.proofs.Common.{◌≡◌, ◌∙◌, refl, sym, ap, ap₂, subst, ℕ, ◌+◌, not, ◌||◌, ◌&&◌, Bool, true, false, List, ◌∷◌, length, slice_index, arith}
use Rattle.std.specs.Prelude.{◌==◌, if◌then◌else◌}
use Rattle.std.specs.Option.{option_or}
use Rattle.eg_num.specs.Drive.{DriveRow, IsDrive}
use Rattle.eg_num.specs.declared.watches.Watches.{Watches}
use Rattle.eg_plant.specs.Engine.{Shown, KeepsLaws}
use Rattle.eg_torque.specs.Ramp.{ramped}
use Rattle.eg_guard.specs.Memory.{AreWords, ShownMemory}
use Rattle.eg_word.specs.declared.registers.Registers.{Registers}
use Rattle.eg_word.specs.World.{World, world_of}
use Rattle.eg_level2.specs.Words.{words_of}
use Rattle.eg_level2.specs.declared.step.Step.{Step}
use Rattle.eg_record.specs.declared.row.Row.{Row}
use Rattle.eg_model.specs.History.{Setting, Entry, Tick, SpanKind, Drive, Test, drives, Moment}
use Rattle.eg_model.specs.Signals.{last_signals}
use Rattle.eg_model.specs.Paths.{is_testing, reads_back, latch1, latch2, path1_at, path2_at, both_conduct}
use Rattle.eg_model.specs.Level1.{last_world}
use Rattle.eg_model.specs.Premises.{IsProperRun}
use Rattle.eg_model.specs.Moments.{demand_at, last_limit, limit_at, moments_in}
use Rattle.eg_model.specs.Spans.{span_kind, has_passed, kind_at, moments, next, span_ticks}
use Rattle.eg_model.specs.Rows.{row_of, signal_list, first_trap, trap_in}
use Rattle.eg_model.proofs.TickLemmas.{length-moments_in}
use Rattle.eg_model.proofs.SpanLemmas.{length-run_moments, tick_after, ticks_before, Continues, continues}
use Rattle.eg_agree.specs.Standing.{signals_of}
use Rattle.eg_agree.specs.Ticking.{found_in_level2}
use Rattle.eg_agree.specs.Replies.{moment_after}
use Rattle.eg_turns.specs.Midway.{signals_in}
use Rattle.eg_tick.specs.Kept.{Kept}
use Rattle.eg_tick.specs.Stands.{kind_of, HoldsLatches, HoldsMonitor, HoldsSpan, HoldsEngine, IsShown, Stands}
use Rattle.eg_tick.specs.Entering.{kind_from, ticks_from}
use Rattle.eg_tick.specs.Inner.Working.{Served, IsStep}
use Rattle.eg_tick.specs.Inner.Judging.{Tells}
use Rattle.eg_tick.specs.declared.monitoring.Judgement.{Judgement}
use Rattle.eg_tick.specs.declared.paths.Paths.{Paths}
use Rattle.eg_tick.specs.declared.span.SpanTick.{SpanTick}
use Rattle.eg_tick.specs.declared.span.Span.{Span}
use Rattle.eg_model.proofs.TickLemmas.{fields_in}

-- ---- as a tick begins ----

-- A controller as the tick of this entry begins: it stood for the history h, and has come into the span of the tick.
pub record Enters (s : Setting) (c : Kept) (e : Entry) (h : List Entry) : Type 0 where
  pub cal : c.cal ≡ s.cal
  pub fault : c.fault ≡ s.fault
  pub count : c.ticks ≡ length h
  pub span : HoldsSpan (kind_at e.drive (moments s h)) s c.span c.registers c.memory.words (ticks_before s e h)
  pub engine : HoldsEngine s c.kt c.shown h
  pub trap : c.trap ≡ first_trap (moments s h)

-- its span, level 1's registers and the memory are these then,
abbrev pub entered : Kept → Span → Registers → ShownMemory → Kept
entered c span m memory = record c { span = span; registers = m; memory = memory }

-- by what the call for it promises
abbrev pub ComesIn : Kept → (reset : Bool) → Span → Registers → ShownMemory → Type 0
ComesIn c reset span m memory =
    (kind : SpanKind) (s : Setting) (h : List Tick) → HoldsSpan kind s c.span c.registers c.memory.words h →
    HoldsSpan (kind_from reset c.span.passed kind) s span m memory.words (ticks_from reset c.span.passed h)

kind_from-is : (reset passed : Bool) (kind : SpanKind) →
    kind_from reset passed kind ≡ (if reset then Test else if passed then Drive else kind)
unfolding kind_from kind_of
kind_from-is true passed kind = refl
kind_from-is false true kind = refl
kind_from-is false false kind = refl

pub enters : (s : Setting) (c : Kept) (e : Entry) (h : List Entry) (reset : Bool) (span : Span) (m : Registers) (memory : ShownMemory) →
    Stands s c h → reset ≡ e.drive.reset → ComesIn c reset span m memory → Enters s (entered c span m memory) e h
unfolding ticks_from kind_at ticks_before
enters s c e h reset span m memory stands resets comes = record {
  cal = stands.cal;
  fault = stands.fault;
  count = stands.count;
  span = subst (λ kind. HoldsSpan kind s span m memory.words (ticks_from e.drive.reset (has_passed (moments s h)) (span_ticks s h)))
      (kind_from-is e.drive.reset (has_passed (moments s h)) (span_kind (moments s h)))
      (subst (λ b. HoldsSpan (kind_from b (has_passed (moments s h)) (span_kind (moments s h))) s span m memory.words
      (ticks_from b (has_passed (moments s h)) (span_ticks s h))) resets
      (subst (λ b. HoldsSpan (kind_from reset b (span_kind (moments s h))) s span m memory.words (ticks_from reset b (span_ticks s h))) stands.passed
      (comes (span_kind (moments s h)) s (span_ticks s h) stands.span)));
  engine = stands.engine;
  trap = stands.trap;
}

-- ---- the paths ----

-- The paths at tick x of a controller, as it is when the tick begins.
pub record Leads (x : Tick) (old : Kept) (paths : Paths) : Type 0 where
  pub path1 : paths.path1 ≡ x.effects.conducts 1 old.span.open1
  pub path2 : paths.path2 ≡ x.effects.conducts 2 old.span.open2
  pub on : paths.on ≡ (drives (kind_of old.span.tests) && (paths.path1 && paths.path2))

module _ (kind : SpanKind) (s : Setting) (x : Tick) (h : List Tick) (old : Kept) (paths : Paths) (leads : Leads x old paths)
    (holds : HoldsSpan kind s old.span old.registers old.memory.words h) where
  abbrev ticks-past : List Moment
  ticks-past = moments_in kind s h

  led1 : paths.path1 ≡ (moment_after kind s x h).path1
  unfolding path1_at
  led1 = leads.path1 ∙ ap (x.effects.conducts 1) holds.latches.path1 ∙ sym ((fields_in kind s x.effects x.entry ticks-past).path1)

  led2 : paths.path2 ≡ (moment_after kind s x h).path2
  unfolding path2_at
  led2 = leads.path2 ∙ ap (x.effects.conducts 2) holds.latches.path2 ∙ sym ((fields_in kind s x.effects x.entry ticks-past).path2)

  led-both : (paths.path1 && paths.path2) ≡ both_conduct x.effects ticks-past
  unfolding both_conduct
  led-both = ap₂ (λ a b. a && b) (led1 ∙ (fields_in kind s x.effects x.entry ticks-past).path1) (led2 ∙ (fields_in kind s x.effects x.entry ticks-past).path2)

  led-on : paths.on ≡ (moment_after kind s x h).on
  led-on = leads.on ∙ ap₂ (λ k b. drives k && b) holds.kind_is led-both ∙ sym ((fields_in kind s x.effects x.entry ticks-past).on)

-- whether the stages are on is what the model says of the next tick of the run
pub next-on : (s : Setting) (e : Entry) (h : List Entry) (old : Kept) (paths : Paths) → Enters s old e h → Leads (tick_after s e h) old paths → paths.on ≡ (next s e h).on
unfolding tick_after
next-on s e h old paths enter leads =
    led-on (kind_at e.drive (moments s h)) s (tick_after s e h) (ticks_before s e h) old paths leads enter.span
    ∙ ap (λ (m : Moment). m.on) (sym (let goes : Continues s e h (kind_at e.drive (moments s h)) (ticks_before s e h) = continues s e h in goes.moment_is))

-- ---- a tick that was made ----

-- the row of a tick of this number, by what its parts say, where the controller is `new` after it
abbrev pub row_by : (tick : ℕ) → DriveRow → (new : Kept) → Paths → SpanTick → Step → Judgement → Row
row_by tick drive new paths span_tick step judgement = record {
  tick = tick;
  drive = drive;
  plate = new.shown.position;
  charge = new.shown.load_1;
  torque = new.shown.torque;
  limit = new.span.limit;
  path1 = paths.path1;
  path2 = paths.path2;
  on = paths.on;
  signals = signals_in (words_of new.memory.words);
  throttle = slice_index new.memory.words 2064;
  ignition = slice_index new.memory.words 2065;
  found = record step.found {
    answers = drives (kind_of span_tick.tests) && judgement.confirms;
    start = span_tick.reads_back && (paths.path1 || paths.path2);
  };
  answer = judgement.mark;
  verdict = judgement.verdict;
  testing = span_tick.testing;
  fresh = span_tick.fresh;
}

-- the watches of level 2 with those of the monitoring module and of the start-up test are those of the tick
watches-are : (found : Watches) (answers start : Bool) (m : Moment) → found ≡ found_in_level2 m → answers ≡ m.found.answers → start ≡ m.found.start →
    record found { answers = answers; start = start } ≡ m.found
unfolding found_in_level2
watches-are found answers start m is same fails = λ i. record (is i) { answers = same i; start = fails i }

-- What the parts of a tick made of a controller: tick x came after h in a span of this kind, and `old` is the controller as it began.
pub record Makes (kind : SpanKind) (s : Setting) (x : Tick) (h : List Tick) (old new : Kept) (paths : Paths) (span_tick : SpanTick) (done : Step)
    (judgement : Judgement) : Type 0 where
  pub cal : new.cal ≡ old.cal
  pub fault : new.fault ≡ old.fault
  pub count : new.ticks ≡ old.ticks + 1
  pub are_words : AreWords new.memory.words
  pub leads : Leads x old paths
  pub placed : span_tick.tests ≡ old.span.tests
  pub fresh : span_tick.fresh ≡ (old.span.local == 0)
  pub testing : span_tick.testing ≡ is_testing (kind_of old.span.tests) s.cal.times old.span.local
  pub read : span_tick.reads_back ≡ reads_back (kind_of old.span.tests) s.cal.times old.span.local
  pub served : Served kind s x h new.registers new.memory.words
  pub step : IsStep kind s x h done
  pub judged : Tells judgement (moment_after kind s x h)
  pub monitor : HoldsMonitor kind s new.span.monitor (x ∷ h)
  pub tests : new.span.tests ≡ old.span.tests
  pub local : new.span.local ≡ old.span.local + 1
  pub permitted : new.span.limit ≡ ramped s.cal.rules.fall old.span.limit (demand_at s.cal x.entry.drive)
  pub passed : new.span.passed ≡ (span_tick.reads_back && not (paths.path1 || paths.path2))
  pub open1 : new.span.open1 ≡ (done.open_path || old.span.open1)
  pub open2 : new.span.open2 ≡ ((judgement.confirms || judgement.opens) || old.span.open2)
  pub kt : new.kt ≡ old.kt
  pub drive : IsDrive x.entry.drive
  pub shown : x.entry.shown ≡ new.shown
  pub laws : KeepsLaws new.kt new.shown
  pub off : paths.on ≡ false → new.shown.torque ≡ 0
  pub trap : new.trap ≡ option_or old.trap (trap_in new.registers.state old.ticks)
  pub not_lost : new.lost ≡ false

module _ (kind : SpanKind) (s : Setting) (x : Tick) (h : List Tick) (old new : Kept) (paths : Paths) (span_tick : SpanTick) (step : Step)
    (judgement : Judgement) (makes : Makes kind s x h old new paths span_tick step judgement)
    (holds : HoldsSpan kind s old.span old.registers old.memory.words h) where
  abbrev m : Moment
  m = moment_after kind s x h

  abbrev past : List Moment
  past = moments_in kind s h

  world-is : world_of new.registers new.memory.words ≡ m.world
  unfolding moments_in last_world
  world-is = makes.served.0.world

  signals-are : signals_of (words_of new.memory.words) ≡ m.signals
  unfolding moments_in last_signals
  signals-are = makes.served.1.words.signals

  local-is : old.span.local ≡ length past
  local-is = holds.local ∙ sym (length-moments_in kind s h)

  -- the permitted torque comes down from that of the tick before
  permitted-is : new.span.limit ≡ m.limit
  unfolding limit_at
  permitted-is = makes.permitted ∙ ap (λ before. ramped s.cal.rules.fall before (demand_at s.cal x.entry.drive)) holds.permitted
      ∙ sym ((fields_in kind s x.effects x.entry past).limit)

  permitted-next : new.span.limit ≡ last_limit (moments_in kind s (x ∷ h))
  unfolding moments_in last_limit
  permitted-next = permitted-is

  -- ---- the paths, and the start-up test ----

  path1-is : paths.path1 ≡ m.path1
  path1-is = led1 kind s x h old paths makes.leads holds

  path2-is : paths.path2 ≡ m.path2
  path2-is = led2 kind s x h old paths makes.leads holds

  on-is : paths.on ≡ m.on
  on-is = led-on kind s x h old paths makes.leads holds

  read-is : span_tick.reads_back ≡ reads_back kind s.cal.times (length past)
  read-is = makes.read ∙ ap₂ (λ k n. reads_back k s.cal.times n) holds.kind_is local-is

  passes-is : new.span.passed ≡ m.passes
  passes-is = makes.passed ∙ ap₂ (λ r b. r && not b) read-is (ap₂ (λ a b. a || b) path1-is path2-is)
      ∙ sym ((fields_in kind s x.effects x.entry past).passes)

  fails-is : (span_tick.reads_back && (paths.path1 || paths.path2)) ≡ m.found.start
  fails-is = ap₂ (λ r b. r && b) read-is (ap₂ (λ a b. a || b) path1-is path2-is) ∙ sym ((fields_in kind s x.effects x.entry past).start)

  -- ---- the span ----

  latches-next : HoldsLatches new.span.open1 new.span.open2 (moments_in kind s (x ∷ h))
  unfolding moments_in latch1 latch2
  latches-next = record {
    path1 = makes.open1 ∙ ap₂ (λ a b. a || b) makes.step.order holds.latches.path1;
    path2 = makes.open2 ∙ ap₂ (λ a b. a || b) (ap₂ (λ a b. a || b) makes.judged.confirms makes.judged.opens) holds.latches.path2;
  }

  pub span-next : HoldsSpan kind s new.span new.registers new.memory.words (x ∷ h)
  span-next = record {
    kind_is = ap kind_of makes.tests ∙ holds.kind_is;
    local = makes.local ∙ (let local = holds.local in omega arith);
    permitted = permitted-next;
    level1 = makes.served.0;
    level2 = makes.served.1;
    latches = latches-next;
    monitor = makes.monitor;
  }

  -- ---- its row ----

  entered-is : x.entry ≡ m.entry
  entered-is = sym ((fields_in kind s x.effects x.entry past).entry)

  shown-is : new.shown ≡ m.entry.shown
  shown-is = sym makes.shown ∙ ap (λ (e : Entry). e.shown) entered-is

  answers-are : (drives (kind_of span_tick.tests) && judgement.confirms) ≡ m.found.answers
  answers-are = ap₂ (λ k b. drives k && b) (ap kind_of makes.placed ∙ holds.kind_is) makes.judged.confirms
      ∙ sym ((fields_in kind s x.effects x.entry past).answers)

  pub row-is : (row : Row) → row ≡ row_by old.ticks x.entry.drive new paths span_tick step judgement → row ≡ row_of old.ticks m
  unfolding row_of world_of signals_in signals_of signal_list
  row-is row is = is ∙ (λ i. record {
    tick = old.ticks;
    drive = ap (λ (e : Entry). e.drive) entered-is i;
    plate = ap (λ (shown : Shown). shown.position) shown-is i;
    charge = ap (λ (shown : Shown). shown.load_1) shown-is i;
    torque = ap (λ (shown : Shown). shown.torque) shown-is i;
    limit = permitted-is i;
    path1 = path1-is i;
    path2 = path2-is i;
    on = on-is i;
    signals = ap signal_list signals-are i;
    throttle = ap (λ (world : World). world.throttle) world-is i;
    ignition = ap (λ (world : World). world.ignition) world-is i;
    found = watches-are step.found _ _ m makes.step.found answers-are fails-is i;
    answer = makes.judged.mark i;
    verdict = makes.judged.verdict i;
    testing = (makes.testing ∙ ap₂ (λ k n. is_testing k s.cal.times n) holds.kind_is local-is ∙ sym ((fields_in kind s x.effects x.entry past).testing)) i;
    fresh = (makes.fresh ∙ ap (λ n. n == 0) local-is ∙ sym ((fields_in kind s x.effects x.entry past).fresh)) i;
  })

-- ---- what a controller stands for ----

module _ (s : Setting) (e : Entry) (h : List Entry) (old new : Kept) (paths : Paths) (span_tick : SpanTick) (step : Step) (judgement : Judgement)
    (enter : Enters s old e h)
    (makes : Makes (kind_at e.drive (moments s h)) s (tick_after s e h) (ticks_before s e h) old new paths span_tick step judgement) where
  abbrev kind : SpanKind
  kind = kind_at e.drive (moments s h)

  abbrev x : Tick
  x = tick_after s e h

  abbrev before : List Tick
  before = ticks_before s e h

  goes : Continues s e h kind before
  goes = continues s e h

  -- the tick is the next moment of the run
  pub moment-is : next s e h ≡ moment_after kind s x before
  unfolding tick_after
  moment-is = goes.moment_is

  engine-next : HoldsEngine s new.kt new.shown (e ∷ h)
  unfolding IsProperRun IsShown tick_after
  engine-next = record {
    one_kt = makes.kt ∙ enter.engine.one_kt;
    proper = (
      record {
        drive = makes.drive;
        engine = subst (λ shown. KeepsLaws s.cal.rules.kt shown) (sym makes.shown)
            (subst (λ kt. KeepsLaws kt new.shown) (makes.kt ∙ enter.engine.one_kt) makes.laws);
        no_torque = λ off. ap (λ (shown : Shown). shown.torque) makes.shown ∙ makes.off (next-on s e h old paths enter makes.leads ∙ off);
      },
      enter.engine.proper,
    );
    shows = makes.shown;
  }

  moments-next : moments s (e ∷ h) ≡ next s e h ∷ moments s h
  unfolding moments next
  moments-next = refl

  trap-next : new.trap ≡ first_trap (next s e h ∷ moments s h)
  unfolding first_trap world_of
  trap-next = makes.trap ∙ ap₂ option_or enter.trap (ap₂ trap_in
      (ap (λ (world : World). world.registers.state)
      (world-is kind s x before old new paths span_tick step judgement makes enter.span ∙ ap (λ (m : Moment). m.world) (sym moment-is)))
      (enter.count ∙ sym (length-run_moments s h)))

  passed-next : new.span.passed ≡ has_passed (next s e h ∷ moments s h)
  unfolding has_passed
  passed-next = passes-is kind s x before old new paths span_tick step judgement makes enter.span ∙ ap (λ (m : Moment). m.passes) (sym moment-is)

  pub next_stands : Stands s new (e ∷ h)
  next_stands = record {
    cal = makes.cal ∙ enter.cal;
    fault = makes.fault ∙ enter.fault;
    count = makes.count ∙ (let count = enter.count in omega arith);
    are_words = makes.are_words;
    span = subst (λ k. HoldsSpan k s new.span new.registers new.memory.words (span_ticks s (e ∷ h))) (sym goes.kind_is)
        (subst (HoldsSpan kind s new.span new.registers new.memory.words) (sym goes.ticks_are)
        (span-next kind s x before old new paths span_tick step judgement makes enter.span));
    passed = passed-next ∙ ap has_passed (sym moments-next);
    engine = engine-next;
    trap = trap-next ∙ ap first_trap (sym moments-next);
    not_lost = makes.not_lost;
  }

  pub next_row : (row : Row) → row ≡ row_by old.ticks e.drive new paths span_tick step judgement →
      row ≡ row_of (length h) (next s e h)
  unfolding tick_after
  next_row row is = row-is kind s x before old new paths span_tick step judgement makes enter.span row is
      ∙ ap₂ row_of enter.count (sym moment-is)
