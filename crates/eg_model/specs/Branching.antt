-- Runs that branch. A fault does nothing before its onset. So up to the onset a run under a fault is the run
-- without one, and a program that has made those ticks without the fault can go on from there under it.
use Rattle.std.specs.Prelude.{◌≡◌, ℕ, ◌≤◌, List, length, Option, None, IfSome}
use Rattle.eg_fault.specs.declared.class.Fault.{Fault}
use Rattle.eg_model.specs.History.{Setting, Entry}
use Rattle.eg_model.specs.Spans.{moments, ticks, span_ticks}
use Rattle.eg_model.specs.Engines.{BenchEngine}
use Rattle.eg_model.specs.Bench.{Run, engine_after, moments_to, entries_to}
use Rattle.eg_model.specs.Records.{rows_to}

-- the fault, if there is one, begins at tick n or later, so that it does nothing at the first n ticks
abbrev pub BeginsFrom : ℕ → Option Fault → Type 0
BeginsFrom n fault = IfSome fault (λ f. n ≤ f.onset)

-- the same setting, but under this fault, or none
abbrev pub under : Option Fault → Setting → Setting
under fault s = record s { fault = fault }

-- ---- runs ----

-- a run of these entries is the same in both settings
pub record AreOneRun (s t : Setting) (h : List Entry) : Type 0 where
  pub moments_are : moments t h ≡ moments s h
  pub ticks_are : ticks t h ≡ ticks s h
  pub span_is : span_ticks t h ≡ span_ticks s h

-- the law: up to the tick at which a fault begins, a run under it is the run without it
abbrev pub RunsBranch : Type 0
RunsBranch =
    (s : Setting) → s.fault ≡ None → (fault : Option Fault) (h : List Entry) → BeginsFrom (length h) fault →
    AreOneRun s (under fault s) h

-- ---- runs on the bench ----

-- the first n ticks of both runs are the same: what comes in, what is true of them, their rows, and the
-- engine after them
pub record BeginAlike {E : Type 0} (b : BenchEngine E) (r q : Run) (n : ℕ) : Type 0 where
  pub entries_are : entries_to b q n ≡ entries_to b r n
  pub moments_are : moments_to b q n ≡ moments_to b r n
  pub rows_are : rows_to b q n ≡ rows_to b r n
  pub engine_is :
      engine_after b q.setting (moments_to b q n) ≡ engine_after b r.setting (moments_to b r n)

-- the law: a run without a fault, and the same run under a fault that begins at tick n or later, begin alike
abbrev pub RecordsBranch : {E : Type 0} → BenchEngine E → Type 0
RecordsBranch b =
    (r : Run) → r.setting.fault ≡ None → (fault : Option Fault) (n : ℕ) → BeginsFrom n fault →
    BeginAlike b r (record r { setting = under fault r.setting }) n
