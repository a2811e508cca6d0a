-- How a tick comes into its span: by whether its drive row resets the unit, whether a start-up test was
-- passed at the tick before, and the span of that tick.
use Rattle.std.specs.Prelude.{◌≡◌, ◌⊎◌, Bool, false, ◌||◌, List, [], if◌then◌else◌}
use Rattle.eg_model.specs.History.{Tick, SpanKind}
use Rattle.eg_tick.specs.declared.span.Span.{Span}
use Rattle.eg_tick.specs.Stands.{kind_of}

-- what the span is for: where one begins, the paths are tested in it if the row resets
unfoldable pub kind_from : (reset passed : Bool) → SpanKind → SpanKind
kind_from reset passed kind = if reset || passed then kind_of reset else kind

-- its ticks so far: none where a span begins
unfoldable pub ticks_from : (reset passed : Bool) → List Tick → List Tick
ticks_from reset passed h = if reset || passed then [] else h

-- a span as it begins: it has no tick, the permitted torque before it is 0, no latch is open, and the
-- monitoring module has heard and judged nothing
unfoldable pub begun : (tests : Bool) → Span → Span
begun tests span = record {
  tests = tests;
  passed = false;
  local = 0;
  limit = 0;
  monitor = record span.monitor { verdicts = 0; heard = []; value = 0 };
  open1 = false;
  open2 = false;
}

-- what is kept of it as a tick comes into it
abbrev pub span_from : (reset : Bool) → Span → Span
span_from reset span = if reset || span.passed then begun reset span else span

-- A tick in which memory ran out has left what is kept of the span, its latches too, as it was; or it is the
-- span that begins with this tick, with both latches closed.
abbrev pub StaysOrBegins : (reset : Bool) → (old new : Span) → Type 0
StaysOrBegins reset old new = (new ≡ old) ⊎ (new ≡ span_from reset old)
