-- A tick that resets the unit begins a test span, another right after a passed test a drive span, and of
-- earlier ticks only those of its span count. A power cycle begins at tick 0 and at each tick whose drive row
-- resets the unit; with a reset it begins with a test span, in which the two shut-off paths are tested and
-- the stages are off. Where the test fails, the test span lasts to the next reset. A run whose first row
-- doesn't reset begins with a drive span. In each span all is as at the start of a run but for the engine,
-- the fault, the slice plan and the trap that is told, which go on.
use Rattle.std.specs.Prelude.{Bool, false, ◌||◌, List, [], ◌∷◌, take, length, if◌then◌else◌}
use Rattle.eg_num.specs.Drive.{DriveRow}
use Rattle.eg_fault.specs.Effects.{Effects}
use Rattle.eg_fault.specs.Faults.{effects}
use Rattle.eg_model.specs.History.{Setting, Entry, Tick, SpanKind, Drive, Test, Moment}
use Rattle.eg_model.specs.Moments.{moment_in}

-- ---- the span that these ticks of a run end in ----

-- its ticks so far: back to the latest one that was the first of a span
unfoldable pub span_so_far : List Moment → List Moment
span_so_far [] = []
span_so_far (m ∷ past) = m ∷ (if m.fresh then [] else span_so_far past)

-- what it is for
unfoldable pub span_kind : List Moment → SpanKind
span_kind [] = Drive
span_kind (m ∷ past) = m.kind

-- a test is passed at the last of them
unfoldable pub has_passed : List Moment → Bool
has_passed [] = false
has_passed (m ∷ past) = m.passes

-- ---- the span of the tick that comes next, with this drive row ----

-- what it is for: the paths are tested where the row resets, the engine is driven right after a test that was
-- passed, and else the span goes on
unfoldable pub kind_at : DriveRow → List Moment → SpanKind
kind_at drive past = if drive.reset then Test else if has_passed past then Drive else span_kind past

-- its ticks before: none where it begins with this tick
unfoldable pub before_at : DriveRow → List Moment → List Moment
before_at drive past = if drive.reset || has_passed past then [] else span_so_far past

-- the moment of that tick
unfoldable pub moment_at : Setting → Effects → Entry → List Moment → Moment
moment_at s x e past = moment_in (kind_at e.drive past) s x e (before_at e.drive past)

-- ---- a run from its start ----

-- the moment of an entry that comes next after these moments: what is out of order is what the fault does at
-- the tick of the run
unfoldable pub next_after : Setting → Entry → List Moment → Moment
next_after s e past = moment_at s (effects s.fault (length past)) e past

-- the moments of a run
unfoldable pub moments : Setting → List Entry → List Moment
moments s [] = []
moments s (e ∷ before) = let past = moments s before in next_after s e past ∷ past

-- the moment of the tick at which e comes in, after a run in which h came in
unfoldable pub next : Setting → Entry → List Entry → Moment
next s e h = next_after s e (moments s h)

-- the ticks of a run, with what is out of order at each
unfoldable pub ticks : Setting → List Entry → List Tick
ticks s [] = []
ticks s (e ∷ before) = record { effects = effects s.fault (length before); entry = e } ∷ ticks s before

-- the ticks of the span that a run ends in
unfoldable pub span_ticks : Setting → List Entry → List Tick
span_ticks s h = take (length (span_so_far (moments s h))) (ticks s h)
