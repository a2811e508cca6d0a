-- What a controller stands for: a history of a run, newest first, one entry a tick. What the controller keeps
-- in its memory, latches and counters is what the model says of the ticks of the span that this history ends
-- in. What each part holds is said of any list of ticks, as a span of either kind; `Stands` alone says which
-- ticks of the history these are.
use Rattle.std.specs.Prelude.{◌≡◌, ℕ, ◌<◌, Bool, true, false, is_some, List, [], ◌∷◌, map, take, length, slice_index, if◌then◌else◌}
use Rattle.std.specs.List.{list_any}
use Rattle.eg_plant.specs.Engine.{Shown}
use Rattle.eg_values.specs.Calibration.{IsAccepted}
use Rattle.eg_answer.specs.Periods.{period_of, place_of, expected_number, marked}
use Rattle.eg_word.specs.declared.registers.Registers.{Registers}
use Rattle.eg_word.specs.World.{world_of}
use Rattle.eg_guard.specs.declared.regions.TheConstants.{DATA}
use Rattle.eg_guard.specs.Memory.{AreWords}
use Rattle.eg_level2.specs.Words.{AreMirrored, words_of}
use Rattle.eg_module.specs.Monitoring.{MonitorParts, HasGiven}
use Rattle.eg_model.specs.History.{Setting, Entry, Tick, SpanKind, Drive, Test, Moment}
use Rattle.eg_model.specs.Answers.{answers_in, verdicts_in, whole_since_answer}
use Rattle.eg_model.specs.Paths.{latch1, latch2}
use Rattle.eg_model.specs.Level1.{last_world}
use Rattle.eg_model.specs.Premises.{IsProperRun}
use Rattle.eg_model.specs.Moments.{last_limit, moments_in}
use Rattle.eg_model.specs.Spans.{span_kind, has_passed, moments, span_ticks}
use Rattle.eg_model.specs.Rows.{first_trap}
use Rattle.eg_agree.specs.Standing.{KeepsWords}
use Rattle.eg_fault.specs.Faults.{IsNoneOrValid}
use Rattle.eg_agree.specs.Replies.{words_over, is_flipped}
use Rattle.eg_agree.specs.Agreement.{last_check}
use Rattle.eg_tick.specs.declared.span.Span.{Span}
use Rattle.eg_tick.specs.Kept.{Kept}

-- ---- level 1 ----

-- The code is the image, with 0 past its end; machine, data and outputs are the world of the model.
pub record HoldsLevel1 (s : Setting) (m : Registers) (memory : List ℕ) (past : List Moment) : Type 0 where
  pub code : (k : ℕ) → k < DATA → slice_index memory k ≡ slice_index s.image k
  pub world : world_of m memory ≡ last_world past

-- ---- level 2 ----

-- The sixteen words are exactly those that the eight modules make of the ticks h, and each has its
-- complement. What they mean: signals, counters, limited operation and trip are those of the model; `last`
-- is the last tick at which check ran, or 65535; and where no word was flipped, and all eight modules ran at
-- each tick since the last answer, the token is 0 and the flow is unmarked.
pub record HoldsLevel2 (kind : SpanKind) (s : Setting) (memory : List ℕ) (h : List Tick) : Type 0 where
  pub mirrored : AreMirrored memory
  pub exact : words_of memory ≡ words_over kind s h
  pub words : KeepsWords s (words_of memory) (moments_in kind s h)
  pub last : (words_of memory).last ≡ last_check h
  pub rests : is_flipped h ≡ false → whole_since_answer (moments_in kind s h) ≡ true →
      ((words_of memory).token ≡ 0) × ((words_of memory).flow ≡ 0x00ff)

-- ---- latches and the monitoring module ----

-- each latch is open where it was opened at one of the ticks
pub record HoldsLatches (open1 open2 : Bool) (past : List Moment) : Type 0 where
  pub path1 : open1 ≡ latch1 past
  pub path2 : open2 ≡ latch2 past

-- the monitoring module was wild at one of these ticks
unfoldable pub was_wild : List Tick → Bool
was_wild h = list_any (λ x. is_some x.effects.wild) h

-- In a monitoring module that was never wild the verdicts are as many as the periods that are over, and the
-- answers that it holds are those that were sent in the period that isn't over yet, each at its tick, and
-- each with the expected number exactly if it is good.
pub record IsOrderly (kind : SpanKind) (s : Setting) (monitor : MonitorParts)
    (h : List Tick) : Type 0 where
  pub period : monitor.verdicts ≡ period_of s.cal.times (length h)
  pub heard : map (marked (expected_number s.cal.times s.cal.questions (length h))) monitor.heard
      ≡ answers_in (take (place_of s.cal.times (length h)) (moments_in kind s h))

-- The monitoring module has the run's times and questions, and has given the verdicts of the model, so that
-- its counter of wrong verdicts is that of the model. It is orderly where it was never wild.
pub record HoldsMonitor (kind : SpanKind) (s : Setting) (monitor : MonitorParts)
    (h : List Tick) : Type 0 where
  pub times : monitor.times ≡ s.cal.times
  pub questions : monitor.questions ≡ s.cal.questions
  pub given : HasGiven monitor (verdicts_in (moments_in kind s h))
  pub orderly : was_wild h ≡ false → IsOrderly kind s monitor h

-- ---- a span ----

-- what a span is for, by whether the shut-off paths are tested in it
unfoldable pub kind_of : Bool → SpanKind
kind_of tests = if tests then Test else Drive

-- What a controller keeps of a span, level 1's registers and the words of the memory are what the model says
-- of these ticks, as a span of this kind: so is the permitted torque of the last of them.
pub record HoldsSpan (kind : SpanKind) (s : Setting) (span : Span) (m : Registers) (memory : List ℕ)
    (h : List Tick) : Type 0 where
  pub kind_is : kind_of span.tests ≡ kind
  pub local : span.local ≡ length h
  pub permitted : span.limit ≡ last_limit (moments_in kind s h)
  pub level1 : HoldsLevel1 s m memory (moments_in kind s h)
  pub level2 : HoldsLevel2 kind s memory h
  pub latches : HoldsLatches span.open1 span.open2 (moments_in kind s h)
  pub monitor : HoldsMonitor kind s span.monitor h

-- ---- the engine ----

-- the entry of the last tick tells what the engine shows now
unfoldable pub IsShown : Shown → List Entry → Type 0
IsShown shown [] = Unit {0}
IsShown shown (e ∷ before) = e.shown ≡ shown

-- The engine has the `kt` of the calibration. At each tick of the run the drive row kept its limits, the
-- plate had an angle within its range, neither load hid torque, and there was no torque where the stages were
-- off.
pub record HoldsEngine (s : Setting) (kt : ℕ) (shown : Shown) (h : List Entry) : Type 0 where
  pub one_kt : kt ≡ s.cal.rules.kt
  pub proper : IsProperRun s h
  pub shows : IsShown shown h

-- ---- the controller ----

-- A controller stands for a history of a run: calibration, fault, the count of ticks, the engine and the
-- first trap are those of the run, and all else is that of the span which it ends in. The memory has 4,096
-- words, and it hasn't run out.
pub record Stands (s : Setting) (c : Kept) (h : List Entry) : Type 0 where
  pub cal : c.cal ≡ s.cal
  pub fault : c.fault ≡ s.fault
  pub count : c.ticks ≡ length h
  pub are_words : AreWords c.memory.words
  pub span : HoldsSpan (span_kind (moments s h)) s c.span c.registers c.memory.words (span_ticks s h)
  pub passed : c.span.passed ≡ has_passed (moments s h)
  pub engine : HoldsEngine s c.kt c.shown h
  pub trap : c.trap ≡ first_trap (moments s h)
  pub not_lost : c.lost ≡ false

-- What a controller always keeps: its calibration is an accepted one; its fault, if any, is a valid one;
-- unless memory ran out it stands for some history of a run of its calibration and its fault; and a sure
-- memory never runs out.
pub record IsController (c : Kept) : Type 0 where
  pub accepted : IsAccepted c.cal
  pub fault : IsNoneOrValid c.fault
  pub stands : c.lost ≡ false → (image : List ℕ) × (h : List Entry)
      × Stands (record { cal = c.cal; image = image; fault = c.fault }) c h
  pub unsure : c.lost ≡ true → c.memory.sure ≡ false
