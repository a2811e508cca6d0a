-- A span as it begins, and a new controller, which stands for the history without a tick.
use Rattle.std.proofs.Common.{◌≡◌, ◌∙◌, refl, sym, ap, subst, ℕ, Bool, false, List, [], map, None}
use Rattle.std.proofs.Math.Seq.{take-nil}
use Rattle.eg_guard.specs.Memory.{AreWords}
use Rattle.eg_word.specs.declared.registers.Registers.{Registers}
use Rattle.eg_word.specs.World.{new_world}
use Rattle.eg_answer.specs.Periods.{marked, expected_number, period_of, place_of}
use Rattle.eg_level2.specs.Words.{start}
use Rattle.eg_turns.specs.Working.{Holds}
use Rattle.eg_model.specs.History.{Setting}
use Rattle.eg_model.specs.Answers.{answers_in, verdicts_in}
use Rattle.eg_model.specs.Paths.{latch1, latch2}
use Rattle.eg_model.specs.Level1.{last_world}
use Rattle.eg_model.specs.Premises.{IsProperRun}
use Rattle.eg_model.specs.Moments.{last_limit, moments_in}
use Rattle.eg_model.specs.Spans.{span_so_far, span_kind, has_passed, moments, ticks, span_ticks}
use Rattle.eg_model.specs.Rows.{first_trap}
use Rattle.eg_agree.specs.Standing.{KeepsWords}
use Rattle.eg_agree.specs.Replies.{words_over}
use Rattle.eg_agree.proofs.HistoryLemmas.{start_law}
use Rattle.eg_module.specs.Monitoring.{HasGiven}
use Rattle.eg_tick.specs.Kept.{Kept}
use Rattle.eg_tick.specs.Stands.{kind_of, HoldsSpan, IsShown, Stands}
use Rattle.eg_tick.specs.declared.span.Span.{Span}
use Rattle.eg_tick.specs.Entering.{begun}
use Rattle.eg_agree.specs.Agreement.{last_check}

-- ---- a span without a tick ----

-- what a span is made of as it begins, whatever it is for
pub record IsNew (s : Setting) (span : Span) (m : Registers) (memory : List ℕ) : Type 0 where
  pub local : span.local ≡ 0
  pub limit : span.limit ≡ 0
  pub held : Holds s.image start new_world m memory
  pub open1 : span.open1 ≡ false
  pub open2 : span.open2 ≡ false
  pub times : span.monitor.times ≡ s.cal.times
  pub questions : span.monitor.questions ≡ s.cal.questions
  pub given : HasGiven span.monitor []
  pub period : span.monitor.verdicts ≡ period_of span.monitor.times 0
  pub heard : span.monitor.heard ≡ []

pub new_span : (s : Setting) (span : Span) (m : Registers) (memory : List ℕ) → IsNew s span m memory →
    HoldsSpan (kind_of span.tests) s span m memory []
unfolding moments_in last_limit last_world last_check words_over start latch1 latch2 verdicts_in answers_in
new_span s span m memory is = record {
  kind_is = refl;
  local = is.local;
  permitted = is.limit;
  level1 = record { code = is.held.code; world = is.held.world_is };
  level2 = record {
    mirrored = is.held.mirrored;
    exact = is.held.words_are;
    words = subst (λ words. KeepsWords s words []) (sym is.held.words_are) (start_law s);
    last = ap (λ words. words.last) is.held.words_are;
    rests = λ unflipped whole. (ap (λ words. words.token) is.held.words_are, ap (λ words. words.flow) is.held.words_are);
  };
  latches = record { path1 = is.open1; path2 = is.open2 };
  monitor = record {
    times = is.times;
    questions = is.questions;
    given = is.given;
    orderly = λ tame. record {
      period = is.period ∙ ap (λ times. period_of times 0) is.times;
      heard = ap (map (marked (expected_number s.cal.times s.cal.questions 0))) is.heard ∙ ap answers_in (sym (take-nil (place_of s.cal.times 0)));
    };
  };
}

-- ---- a span that begins in a run ----

-- from the calls by which it begins
pub begun_new : (s : Setting) (tests : Bool) (old span : Span) (m : Registers) (memory : List ℕ) → old.monitor.times ≡ s.cal.times →
    old.monitor.questions ≡ s.cal.questions → Holds s.image start new_world m memory → span ≡ begun tests old → HasGiven span.monitor [] →
    span.monitor.verdicts ≡ period_of span.monitor.times 0 → IsNew s span m memory
unfolding begun
begun_new s tests old span m memory times questions held begins given period = record {
  local = ap (λ (p : Span). p.local) begins;
  limit = ap (λ (p : Span). p.limit) begins;
  held = held;
  open1 = ap (λ (p : Span). p.open1) begins;
  open2 = ap (λ (p : Span). p.open2) begins;
  times = ap (λ (p : Span). p.monitor.times) begins ∙ times;
  questions = ap (λ (p : Span). p.monitor.questions) begins ∙ questions;
  given = given;
  period = period;
  heard = ap (λ (p : Span). p.monitor.heard) begins;
}

pub begun_span : (s : Setting) (tests : Bool) (old span : Span) (m : Registers) (memory : List ℕ) → span ≡ begun tests old →
    IsNew s span m memory → HoldsSpan (kind_of tests) s span m memory []
unfolding begun
begun_span s tests old span m memory begins new =
    subst (λ (t : Bool). HoldsSpan (kind_of t) s span m memory []) (ap (λ (p : Span). p.tests) begins) (new_span s span m memory new)

-- ---- the controller ----

-- a new controller stands for the history without a tick
pub new_stands : (s : Setting) (c : Kept) → c.cal ≡ s.cal → c.fault ≡ s.fault → c.ticks ≡ 0 → AreWords c.memory.words →
    c.span.tests ≡ false → c.span.passed ≡ false → IsNew s c.span c.registers c.memory.words → c.kt ≡ s.cal.rules.kt → c.trap ≡ None →
    c.lost ≡ false → Stands s c []
unfolding moments span_kind has_passed span_ticks span_so_far ticks first_trap IsProperRun IsShown kind_of
new_stands s c cal fault count are_words drives passed new kt trap not_lost = record {
  cal = cal;
  fault = fault;
  count = count;
  are_words = are_words;
  span = subst (λ kind. HoldsSpan kind s c.span c.registers c.memory.words []) (ap kind_of drives) (new_span s c.span c.registers c.memory.words new);
  passed = passed;
  engine = record { one_kt = kt; proper = tt; shows = tt };
  trap = trap;
  not_lost = not_lost;
}
