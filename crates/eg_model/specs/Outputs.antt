-- Two runs that differ in image and slice plan alone have the same rows, but for the two outputs, up to a
-- tick before which these outputs were the same. So level 1 acts by its two outputs alone: with any image,
-- and any number of instructions, level 2 and the monitoring module do the same where the same comes in; and
-- the engine uses only the two outputs of it.
use Rattle.std.specs.Prelude.{◌≡◌, ℕ, List, [], ◌∷◌, ◌++◌, map}
use Rattle.eg_record.specs.declared.row.Row.{Row}
use Rattle.eg_word.specs.World.{new_world}
use Rattle.eg_model.specs.History.{Setting, Entry, Tick, SpanKind, Moment}
use Rattle.eg_model.specs.Moments.{moments_in}
use Rattle.eg_model.specs.Spans.{moments}
use Rattle.eg_model.specs.Engines.{BenchEngine}
use Rattle.eg_model.specs.Bench.{Run}
use Rattle.eg_model.specs.Rows.{record_rows}

-- ---- another level 1 ----

-- the same setting with this image
abbrev pub running : (image : List ℕ) → Setting → Setting
running image s = record s { image = image }

-- the same run with this image and this slice plan
abbrev pub with_level1 : (image : List ℕ) → (plan : List (List ℕ)) → Run → Run
with_level1 image plan r = record r { setting = running image r.setting; plan = plan }

-- ---- all but level 1 ----

-- what comes in at a tick, but for how many instructions level 1 may do
unfoldable pub without_slices : Entry → Entry
without_slices e = record e { slices = [] }

-- a tick of a history that stands by itself, but for these instructions
unfoldable pub tick_without_slices : Tick → Tick
tick_without_slices x = record x { entry = without_slices x.entry }

-- what is true of a tick, but for these instructions and level 1's world
unfoldable pub without_level1 : Moment → Moment
without_level1 m = record m { entry = without_slices m.entry; world = new_world }

-- a row, but for level 1's two outputs
unfoldable pub without_outputs : Row → Row
without_outputs row = record row { throttle = 0; ignition = 0 }

-- the two outputs after each of these rows' ticks
unfoldable pub outputs_of : List Row → List (ℕ × ℕ)
outputs_of rows = map (λ row. (row.throttle, row.ignition)) rows

-- ---- histories ----

-- Take two histories that stand by themselves, as spans of either kind, with any images and any slices. If at
-- each tick the same is out of order, the drive rows are the same, and the engine shows the same, then the
-- same is true of each tick, but for level 1.
abbrev pub SpansDisregardLevel1 : Type 0
SpansDisregardLevel1 =
    (kind : SpanKind) (s : Setting) (image : List ℕ) (h others : List Tick) →
    map tick_without_slices h ≡ map tick_without_slices others →
    map without_level1 (moments_in kind s h) ≡ map without_level1 (moments_in kind (running image s) others)

-- the same of two runs, whose spans then begin at the same ticks
abbrev pub RunsDisregardLevel1 : Type 0
RunsDisregardLevel1 =
    (s : Setting) (image : List ℕ) (h others : List Entry) →
    map without_slices h ≡ map without_slices others →
    map without_level1 (moments s h) ≡ map without_level1 (moments (running image s) others)

-- ---- records; rows stand newest first ----

-- Of the rows of two runs: where the two outputs after each tick before some tick are equal, the rows up to
-- that tick are equal but for the outputs.
abbrev pub ActByOutputs : (rows others : List Row) → Type 0
ActByOutputs rows others =
    (later before other_later other_before : List Row) (row other : Row) →
    rows ≡ later ++ row ∷ before → others ≡ other_later ++ other ∷ other_before →
    outputs_of before ≡ outputs_of other_before →
    map without_outputs (row ∷ before) ≡ map without_outputs (other ∷ other_before)

-- The law: this holds of each run and the same run with any other image and slice plan.
abbrev pub RecordsActByOutputs : {E : Type 0} → BenchEngine E → Type 0
RecordsActByOutputs b =
    (r : Run) (image : List ℕ) (plan : List (List ℕ)) →
    ActByOutputs (record_rows b r) (record_rows b (with_level1 image plan r))

-- So where the outputs of two such runs are equal at all ticks, their rows are the same.
abbrev pub RecordsFollowOutputs : {E : Type 0} → BenchEngine E → Type 0
RecordsFollowOutputs b =
    (r : Run) (image : List ℕ) (plan : List (List ℕ)) →
    outputs_of (record_rows b r) ≡ outputs_of (record_rows b (with_level1 image plan r)) →
    record_rows b r ≡ record_rows b (with_level1 image plan r)
