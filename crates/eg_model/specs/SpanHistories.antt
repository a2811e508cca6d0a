-- A span of a run is a history by itself: what is true of its ticks follows from these ticks alone. So each
-- law of histories holds of each span of a run.
use Rattle.std.specs.Prelude.{◌≡◌, ℕ, ◌+◌, List, length}
use Rattle.eg_model.specs.History.{Setting, Entry, Drive}
use Rattle.eg_model.specs.Moments.{moments_in}
use Rattle.eg_model.specs.Spans.{span_so_far, span_kind, moments, span_ticks}
use Rattle.eg_model.specs.Premises.{AreProper, IsProperRun, Follows}

-- what holds of the span that a run ends in, h being what came in at the ticks of the run
pub record SpanIsHistory (s : Setting) (h : List Entry) : Type 0 where
  -- what is true of its ticks is what is true of them as a history that stands by itself
  pub moments_are : span_so_far (moments s h) ≡ moments_in (span_kind (moments s h)) s (span_ticks s h)
  -- the tick of the run at which it begins; from there its ticks go to the last of the run
  pub begin : ℕ
  pub size : begin + length (span_ticks s h) ≡ length h
  -- at each of its ticks the fault puts out of order what it does at that tick of the run
  pub follows : Follows s.fault begin (span_ticks s h)
  -- if what comes in is proper at each tick of the run, it is at those of a drive span
  pub proper : IsProperRun s h → span_kind (moments s h) ≡ Drive → AreProper s (span_ticks s h)

-- The law. (Each span of a run, and each part of it up to any tick, is the one that the run up to that tick
-- ends in.)
abbrev pub SpansAreHistories : Type 0
SpansAreHistories = (s : Setting) (h : List Entry) → SpanIsHistory s h
