-- A controller that is branched: what it stands for without a fault its branch stands for under one that hasn't
-- begun.
use Rattle.std.proofs.Common.{◌≡◌, ◌∙◌, refl, sym, ap, subst, ℕ, Bool, true, false, List, [], ◌∷◌, take, length, Option, None}
use Rattle.eg_answer.specs.Periods.{place_of}
use Rattle.eg_word.specs.declared.registers.Registers.{Registers}
use Rattle.eg_guard.specs.Memory.{ShownMemory, AreWords}
use Rattle.eg_fault.specs.Faults.{IsNoneOrValid}
use Rattle.eg_fault.specs.declared.class.Fault.{Fault}
use Rattle.eg_level2.specs.Words.{Words}
use Rattle.eg_level2.specs.Ticks.{after_tick}
use Rattle.eg_module.specs.Monitoring.{MonitorParts, HasGiven}
use Rattle.eg_model.specs.History.{Setting, Entry, Tick, SpanKind, Moment}
use Rattle.eg_model.specs.Answers.{answers_in, verdicts_in, whole_since_answer}
use Rattle.eg_model.specs.Level1.{last_world}
use Rattle.eg_model.specs.Premises.{IsProper, IsProperRun}
use Rattle.eg_model.specs.Moments.{last_limit, moments_in}
use Rattle.eg_model.specs.Spans.{span_kind, has_passed, moments, span_ticks}
use Rattle.eg_model.specs.Rows.{first_trap}
use Rattle.eg_model.specs.Branching.{BeginsFrom, under, AreOneRun}
use Rattle.eg_model.proofs.BranchLaws.{fewer, moments_in-under, next_moment-alike, are_one_run}
use Rattle.eg_agree.specs.Standing.{KeepsWords}
use Rattle.eg_agree.specs.Doings.{doing_at}
use Rattle.eg_agree.specs.Replies.{doing_after, words_over}
use Rattle.eg_tick.specs.Kept.{Kept}
use Rattle.eg_tick.specs.Stands.{HoldsLevel1, HoldsLevel2, HoldsLatches, HoldsMonitor, HoldsSpan, Stands, IsController}
use Rattle.eg_tick.specs.declared.span.Span.{Span}

-- ---- what reads no fault: all that is said of given ticks ----

module _ (kind : SpanKind) (s : Setting) (fault : Option Fault) where
  words_over-under : (h : List Tick) → words_over kind (under fault s) h ≡ words_over kind s h
  unfolding words_over doing_after doing_at
  words_over-under [] = refl
  words_over-under (x ∷ h) = ap (after_tick (doing_after kind s x h)) (words_over-under h)

  same : (h : List Tick) → moments_in kind s h ≡ moments_in kind (under fault s) h
  same h = sym (moments_in-under kind s fault h)

  words-under : (words : Words) (past : List Moment) → KeepsWords s words past → KeepsWords (under fault s) words past
  words-under words past keeps = record {
    signals = keeps.signals;
    pedal = keeps.pedal;
    plate = keeps.plate;
    load = keeps.load;
    speed = keeps.speed;
    torque = keeps.torque;
    limp = keeps.limp;
    trip = keeps.trip;
  }

  level1-under : (m : Registers) (memory : List ℕ) (h : List Tick) → HoldsLevel1 s m memory (moments_in kind s h) →
      HoldsLevel1 (under fault s) m memory (moments_in kind (under fault s) h)
  level1-under m memory h holds = record { code = holds.code; world = holds.world ∙ ap last_world (same h) }

  level2-under : (memory : List ℕ) (h : List Tick) → HoldsLevel2 kind s memory h → HoldsLevel2 kind (under fault s) memory h
  level2-under memory h holds = record {
    mirrored = holds.mirrored;
    exact = holds.exact ∙ sym (words_over-under h);
    words = subst (KeepsWords (under fault s) _) (same h) (words-under _ _ holds.words);
    last = holds.last;
    rests = λ unflipped whole. holds.rests unflipped (ap whole_since_answer (same h) ∙ whole);
  }

  monitor-under : (monitor : MonitorParts) (h : List Tick) → HoldsMonitor kind s monitor h → HoldsMonitor kind (under fault s) monitor h
  monitor-under monitor h holds = record {
    times = holds.times;
    questions = holds.questions;
    given = subst (λ past. HasGiven monitor (verdicts_in past)) (same h) holds.given;
    orderly = λ tame. record {
      period = (holds.orderly tame).period;
      heard = (holds.orderly tame).heard ∙ ap (λ past. answers_in (take (place_of s.cal.times (length h)) past)) (same h);
    };
  }

  span-under : (span : Span) (m : Registers) (memory : List ℕ) (h : List Tick) → HoldsSpan kind s span m memory h →
      HoldsSpan kind (under fault s) span m memory h
  span-under span m memory h holds = record {
    kind_is = holds.kind_is;
    local = holds.local;
    permitted = holds.permitted ∙ ap last_limit (same h);
    level1 = level1-under m memory h holds.level1;
    level2 = level2-under memory h holds.level2;
    latches = subst (HoldsLatches span.open1 span.open2) (same h) holds.latches;
    monitor = monitor-under span.monitor h holds.monitor;
  }

-- ---- what depends on the run ----

module _ (s : Setting) (none : s.fault ≡ None) (fault : Option Fault) where
  proper-under : (on : Bool) (e : Entry) → IsProper s on e → IsProper (under fault s) on e
  proper-under on e proper = record { drive = proper.drive; engine = proper.engine; no_torque = proper.no_torque }

  pub proper_run-under : (h : List Entry) → BeginsFrom (length h) fault → IsProperRun s h → IsProperRun (under fault s) h
  unfolding IsProperRun
  proper_run-under [] from proper = tt
  proper_run-under (e ∷ h) from proper = (
    subst (λ (m : Moment). IsProper (under fault s) m.on e) (sym (next_moment-alike s none fault e h from)) (proper-under _ e proper.0),
    proper_run-under h (fewer fault (length h) from) proper.1,
  )

  stands-under : (c : Kept) (h : List Entry) → BeginsFrom (length h) fault → Stands s c h → Stands (under fault s) (record c { fault = fault }) h
  stands-under c h from stands = record {
    cal = stands.cal;
    fault = refl;
    count = stands.count;
    are_words = stands.are_words;
    span = subst (λ past. HoldsSpan (span_kind past) (under fault s) c.span c.registers c.memory.words (span_ticks (under fault s) h)) (sym run.moments_are)
        (subst (HoldsSpan (span_kind (moments s h)) (under fault s) c.span c.registers c.memory.words) (sym run.span_is)
        (span-under (span_kind (moments s h)) s fault c.span c.registers c.memory.words (span_ticks s h) stands.span));
    passed = stands.passed ∙ ap has_passed (sym run.moments_are);
    engine = record { one_kt = stands.engine.one_kt; proper = proper_run-under h from stands.engine.proper; shows = stands.engine.shows };
    trap = stands.trap ∙ ap first_trap (sym run.moments_are);
    not_lost = stands.not_lost;
  }
    where
      run : AreOneRun s (under fault s) h
      run = are_one_run s none fault h from

-- ---- over another memory ----

-- of the memory only the words count
stands-over : (s : Setting) (c : Kept) (memory : ShownMemory) (h : List Entry) → memory.words ≡ c.memory.words → Stands s c h →
    Stands s (record c { memory = memory }) h
stands-over s c memory h words stands = record {
  cal = stands.cal;
  fault = stands.fault;
  count = stands.count;
  are_words = subst AreWords (sym words) stands.are_words;
  span = subst (λ w. HoldsSpan (span_kind (moments s h)) s c.span c.registers w (span_ticks s h)) (sym words) stands.span;
  passed = stands.passed;
  engine = stands.engine;
  trap = stands.trap;
  not_lost = stands.not_lost;
}

-- ---- the controller ----

-- what a branch keeps: the same but the fault, over a memory of its own
abbrev pub branch_of : Kept → Option Fault → ShownMemory → Kept
branch_of c fault memory = record c { fault = fault; memory = memory }

-- the branch stands for what the controller stands for
pub branch_stands : (s : Setting) (c : Kept) (fault : Option Fault) (memory : ShownMemory) (h : List Entry) → c.fault ≡ None → BeginsFrom c.ticks fault →
    memory.words ≡ c.memory.words → Stands s c h → Stands (under fault s) (branch_of c fault memory) h
branch_stands s c fault memory h none from words stands = stands-over (under fault s) (record c { fault = fault }) memory h words
    (stands-under s (sym stands.fault ∙ none) fault c h (subst (λ n. BeginsFrom n fault) stands.count from) stands)

-- and is a controller
pub branch_is : (c : Kept) (fault : Option Fault) (memory : ShownMemory) → c.fault ≡ None → IsNoneOrValid fault → BeginsFrom c.ticks fault →
    memory.words ≡ c.memory.words → (c.lost ≡ true → memory.sure ≡ false) → IsController c → IsController (branch_of c fault memory)
branch_is c fault memory none valid from words unsure is = record {
  accepted = is.accepted;
  fault = valid;
  stands = λ kept. let some = is.stands kept in (some.0, some.1, branch_stands _ c fault memory some.1 none from words some.2);
  unsure = unsure;
}
