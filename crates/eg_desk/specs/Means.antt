-- What the numbers of `coverage` mean (F44). The numbers of a row hold of each run on the bench by the
-- calibration under a valid fault of the row's class. If faults can stay hidden, the definitions below say
-- which. Rows of a record stand newest first.
use Rattle.std.specs.Prelude.{◌≡◌, ◌≢◌, ◌==◌, ◌⊎◌, ℕ, ◌+◌, ◌≤◌, ◌<◌, Bool, true, false, not, ◌&&◌, max, nat_le, List, [], ◌∷◌, ◌++◌, All, length, Option, Some, None}
use Rattle.eg_answer.specs.Times.{feeds_to_confirm}
use Rattle.eg_answer.specs.Periods.{place_of}
use Rattle.eg_values.specs.Calibration.{CalibrationParts, IsAccepted}
use Rattle.eg_values.specs.Excess.{BoundsMissed}
use Rattle.eg_plant.specs.declared.engine_kind.EngineKind.{EngineKind}
use Rattle.eg_fault.specs.Faults.{effects, IsValid, opens_path}
use Rattle.eg_fault.specs.Names.{name_of, class_index}
use Rattle.eg_sensor.specs.declared.tracks.TheConstants.{PAIRED_TRACKS}
use Rattle.eg_fault.specs.declared.class.Class.{Class}
use Rattle.eg_fault.specs.declared.class.Class.TheVariants as class
use Rattle.eg_fault.specs.declared.class.Fault.{Fault}
use Rattle.eg_fault.specs.declared.class_name.ClassName.{ClassName}
use Rattle.eg_fault.specs.declared.class_name.ClassName.TheVariants as name
use Rattle.eg_record.specs.declared.row.Row.{Row}
use Rattle.eg_record.specs.declared.watch.Watch.TheVariants.{Answers}
use Rattle.eg_record.specs.Spans.{EachDriveSpan, EachTestSpan}
use Rattle.eg_model.specs.History.{Setting}
use Rattle.eg_model.specs.Engines.{diesel, bench_of}
use Rattle.eg_model.specs.Bench.{Run}
use Rattle.eg_model.specs.Rows.{record_rows}
use Rattle.eg_model.specs.Records.{IsRun, ExcessIsBelow, ReactWithin}
use Rattle.eg_laws.specs.Findings.{Finds}
use Rattle.eg_laws.specs.Availability.{misses_tick, has_tripped}
use Rattle.eg_laws.specs.PairsFound.{Pair, disagrees_at, has_found}
use Rattle.eg_laws.specs.PairsFound.{Pedal as pedal_pair, Plate as plate_pair, Load as load_pair, Speed as speed_pair}
use Rattle.eg_laws.specs.Coverage.{sends_outside, ClosedAreFound}
use Rattle.eg_laws.specs.Latent.{CanStayHidden, SmallOffsetsHide, SmallScriptsHide, MovesInWindowHide, single_miss, FarMissesHide}
use Rattle.eg_desk.specs.declared.coverage.CoverageCase.{CoverageCase}
use Rattle.eg_desk.specs.declared.coverage.CoverageCase.TheVariants as case
use Rattle.eg_desk.specs.declared.coverage.CoverageRow.{CoverageRow}
use Rattle.eg_desk.specs.declared.coverage.CoverageTicks.{CoverageTicks}
use Rattle.eg_desk.specs.declared.coverage.Off.{Off}
use Rattle.eg_desk.specs.declared.coverage.Off.TheVariants.{Never, After, Confirmed, Ordered, Excess}
use Rattle.eg_desk.specs.Coverage.{AreTicks, numbers_of}

-- ---- which runs ----

unfoldable pub is_of : ClassName → Class → Bool
is_of name class = class_index (name_of class) == class_index name

-- P holds of each run by this calibration under a valid fault of such a class, and of its record
abbrev pub OfRuns : CalibrationParts → (Class → Bool) → (Setting → Fault → List Row → Type 0) → Type 0
OfRuns cal meant P =
    (engine : EngineKind) (r : Run) (fault : Fault) → IsRun r → r.setting.cal ≡ cal →
    r.setting.fault ≡ Some fault → IsValid fault → meant fault.class ≡ true →
    P r.setting fault (record_rows (bench_of engine) r)

-- ---- what a field says: P of its number, and that it has one ----

-- of `within`
abbrev pub FoundIn : Option ℕ → (ℕ → Type 0) → Type 0
FoundIn (Some n) P = P n
FoundIn None P = ⊥

-- of `off`, by what its number counts from
abbrev pub OffAfter : Off → (ℕ → Type 0) → Type 0
OffAfter (After n) P = P n
OffAfter _ P = ⊥

abbrev pub OffConfirmed : Off → (ℕ → Type 0) → Type 0
OffConfirmed (Confirmed n) P = P n
OffConfirmed _ P = ⊥

abbrev pub OffOrdered : Off → (ℕ → Type 0) → Type 0
OffOrdered (Ordered n) P = P n
OffOrdered _ P = ⊥

-- of `hidden`, which is 1
abbrev pub HiddenIn : Bool → Type 0 → Type 0
HiddenIn true P = P
HiddenIn false P = ⊥

-- ---- the rows of a span that begins at tick `start`, or of its part up to any tick ----

-- Of a drive span: the stages are off from n ticks after the onset, or after the beginning of the span if
-- that is later.
abbrev pub IsOffFrom : (onset n start : ℕ) → List Row → Type 0
IsOffFrom onset n start rows = All (λ row. max onset start + n ≤ row.tick → row.on ≡ false) rows

-- Of a drive span: before each row from that tick on, `answers` has found something in the span.
abbrev pub FindsAnswersWithin : (onset n start : ℕ) → List Row → Type 0
FindsAnswersWithin onset n start rows =
    (later before : List Row) (row : Row) → rows ≡ later ++ row ∷ before → max onset start + n ≤ row.tick →
    Finds (Answers ∷ []) before

-- If a pair disagrees at n rows in a row, its watch has found something by the last of them, or a trip has
-- come; and the stages are off at each later row.
abbrev pub FindsApart : Pair → Setting → (n start : ℕ) → List Row → Type 0
FindsApart pair s n start rows =
    (later stretch before : List Row) → rows ≡ later ++ (stretch ++ before) →
    All (λ row. disagrees_at pair s row ≡ true) stretch → n ≤ length stretch →
    (has_found pair (stretch ++ before) ≡ true) ⊎ (has_tripped (stretch ++ before) ≡ true)

abbrev pub CutsApart : Pair → Setting → (n start : ℕ) → List Row → Type 0
CutsApart pair s n start rows =
    (later stretch before : List Row) → rows ≡ later ++ (stretch ++ before) →
    All (λ row. disagrees_at pair s row ≡ true) stretch → n ≤ length stretch →
    All (λ row. row.on ≡ false) later

-- a flip is found at one of the first n ticks from the onset on
abbrev pub FindsFlip : (onset n : ℕ) → List Row → Type 0
FindsFlip onset n rows = (k : ℕ) × (k < n) × All (λ row. row.tick ≡ onset + k → row.found.mirror ≡ true) rows

-- the stages are off from n ticks after an order to open path 2
abbrev pub CutsOrdered : Fault → (n start : ℕ) → List Row → Type 0
CutsOrdered fault n start rows =
    (later between before : List Row) (row ordered : Row) →
    rows ≡ later ++ row ∷ (between ++ ordered ∷ before) →
    (effects (Some fault) ordered.tick).opens ≡ true → n ≤ length between + 1 → row.on ≡ false

-- Of a drive span: from n ticks after each of its ticks that level 2 misses, `answers` has found something
-- before each row, and the stages are off.
abbrev pub FindsMisses : Fault → (n start : ℕ) → List Row → Type 0
FindsMisses fault n start rows =
    (tick : ℕ) → start ≤ tick → misses_tick (Some fault) tick ≡ true → FindsAnswersWithin tick n start rows

abbrev pub CutsMisses : Fault → (n start : ℕ) → List Row → Type 0
CutsMisses fault n start rows =
    (tick : ℕ) → start ≤ tick → misses_tick (Some fault) tick ≡ true → IsOffFrom tick n start rows

-- Of a drive span in which a flip comes: the stages are off from n ticks after the flip.
abbrev pub IsOffAfterFlip : (onset n start : ℕ) → List Row → Type 0
IsOffAfterFlip onset n start rows = start ≤ onset → IsOffFrom onset n start rows

-- Of a test span: the stages are off from n ticks after its beginning.
abbrev pub IsOffSince : (n start : ℕ) → List Row → Type 0
IsOffSince n start rows = All (λ row. start + n ≤ row.tick → row.on ≡ false) rows

-- Of a test span: `start` finds something at one of the first n rows, if the fault has begun by then.
abbrev pub FindsClosed : Fault → (n : ℕ) → List Row → Type 0
FindsClosed fault n rows = (k : ℕ) × (k < n) × EachTestSpan (ClosedAreFound (Some fault) k) rows

-- ---- which faults stay hidden ----

-- C100, of this fault on both engines
abbrev pub StaysHidden : CalibrationParts → Fault → Type 0
StaysHidden cal fault = (engine : EngineKind) → CanStayHidden (bench_of engine) cal fault

-- C100, of each valid fault of such a class
abbrev pub AllHide : CalibrationParts → (Class → Bool) → Type 0
AllHide cal meant =
    IsAccepted cal → (fault : Fault) → IsValid fault → meant fault.class ≡ true → StaysHidden cal fault

-- C100, of each valid fault of such a class, on the diesel engine, which shows no load at rest
abbrev pub AllHideAtRest : CalibrationParts → (Class → Bool) → Type 0
AllHideAtRest cal meant =
    IsAccepted cal → (fault : Fault) → IsValid fault → meant fault.class ≡ true →
    CanStayHidden diesel cal fault

-- Parts of a class that hide (C100):
-- - offsets within the tolerance of a pair (none, if the tolerance is 0); of a load only those with which a
--   raise of 10,000 and the threshold cover the estimate of the greatest load that is then read;
-- - scripts on a pedal or speed track, within the tolerance of its reading at rest;
-- - send ticks that are moved within the window;
-- - a lapse of one tick that isn't a send tick;
-- - lapses whose misses lie `spacing` of `limits` apart.
abbrev pub SmallOffsetsStay : Type 0
SmallOffsetsStay = (engine : EngineKind) → SmallOffsetsHide (bench_of engine)

abbrev pub SmallScriptsStay : Type 0
SmallScriptsStay = (engine : EngineKind) → SmallScriptsHide (bench_of engine)

abbrev pub MovesStay : Type 0
MovesStay = (engine : EngineKind) → MovesInWindowHide (bench_of engine)

abbrev pub OneMissStays : CalibrationParts → Type 0
OneMissStays cal =
    IsAccepted cal → (onset after : ℕ) → place_of cal.times (onset + after) ≢ cal.times.send →
    IsValid (single_miss onset after) → StaysHidden cal (single_miss onset after)

abbrev pub FarMissesStay : Type 0
FarMissesStay = (engine : EngineKind) → FarMissesHide (bench_of engine)

-- a class that acts on a contact of the brake
unfoldable pub on_contact : Class → Bool
on_contact (class.Script track values) = nat_le PAIRED_TRACKS track
on_contact (class.Offset track add) = nat_le PAIRED_TRACKS track
on_contact _ = false

-- ---- what a row says ----

-- C62, with n ticks in place of R
abbrev pub ReactsIn : Setting → List Row → ℕ → Type 0
ReactsIn s rows n = EachDriveSpan (ReactWithin n s.cal.rules.torque s.cal.rules.threshold) rows

-- nothing need find the fault, and the stages are off after a confirmed excess
abbrev pub MeansUnfound : CalibrationParts → (Class → Bool) → (hides : Type 0) → CoverageRow → Type 0
MeansUnfound cal meant hides row = (row.within ≡ None) × HiddenIn row.hidden hides
    × OfRuns cal meant (λ s fault rows. OffConfirmed row.off (ReactsIn s rows))

-- the pair of the pedal is found, and the stages are off after a confirmed excess
abbrev pub MeansPedal : CalibrationParts → (Class → Bool) → CoverageRow → Type 0
MeansPedal cal meant row = (row.hidden ≡ false) × OfRuns cal meant (λ s fault rows.
    FoundIn row.within (λ n. EachDriveSpan (FindsApart pedal_pair s n) rows)
    × OffConfirmed row.off (ReactsIn s rows))

-- a pair other than the pedal's is found and cut
abbrev pub MeansApart : CalibrationParts → (Class → Bool) → Pair → CoverageRow → Type 0
MeansApart cal meant pair row = (row.hidden ≡ false) × OfRuns cal meant (λ s fault rows.
    FoundIn row.within (λ n. EachDriveSpan (FindsApart pair s n) rows)
    × OffAfter row.off (λ n. EachDriveSpan (CutsApart pair s n) rows))

-- the answers are found, and the stages are off, from the onset on
abbrev pub MeansSpoiled : CalibrationParts → (Class → Bool) → CoverageRow → Type 0
MeansSpoiled cal meant row = (row.hidden ≡ false) × OfRuns cal meant (λ s fault rows.
    FoundIn row.within (λ n. EachDriveSpan (FindsAnswersWithin fault.onset n) rows)
    × OffAfter row.off (λ n. EachDriveSpan (IsOffFrom fault.onset n) rows))

-- a test finds a path that is held closed, and the stages are off
abbrev pub MeansTested : CalibrationParts → ClassName → CoverageRow → Type 0
MeansTested cal name row = (row.hidden ≡ false) × OfRuns cal (is_of name) (λ s fault rows.
    FoundIn row.within (λ n. FindsClosed fault n rows)
    × OffAfter row.off (λ n. EachTestSpan (IsOffSince n) rows))

-- a lapse is found, and the stages are off, after each tick that it leaves out
abbrev pub MeansFoundLapse : CalibrationParts → CoverageRow → Type 0
MeansFoundLapse cal row = (row.hidden ≡ false) × OfRuns cal (is_of name.Lapse) (λ s fault rows.
    FoundIn row.within (λ n. EachDriveSpan (FindsMisses fault n) rows)
    × OffAfter row.off (λ n. EachDriveSpan (CutsMisses fault n) rows))

-- C103: how long an excess lasts under a lapse, or that no number is proved for the calibration
abbrev pub MeansMissed : CalibrationParts → Off → Type 0
MeansMissed cal (Excess n) = OfRuns cal (is_of name.Lapse) (λ s fault rows.
    EachDriveSpan (ExcessIsBelow s.cal.rules.threshold n) rows)
MeansMissed cal Never = ¬ BoundsMissed cal
MeansMissed cal _ = ⊥

-- lapses that can stay hidden: those of one tick that isn't a send tick, and those whose misses lie far apart
abbrev pub MeansHiddenLapse : CalibrationParts → CoverageRow → Type 0
MeansHiddenLapse cal row =
    (row.within ≡ None) × HiddenIn row.hidden (OneMissStays cal × FarMissesStay) × MeansMissed cal row.off

unfoldable pub RowMeans : CalibrationParts → CoverageCase → CoverageRow → Type 0
RowMeans cal case.ScriptPedal row = MeansPedal cal (is_of name.Script) row
RowMeans cal case.ScriptPlate row = MeansApart cal (is_of name.Script) plate_pair row
RowMeans cal case.ScriptLoad row = MeansApart cal (is_of name.Script) load_pair row
RowMeans cal case.ScriptSpeed row = MeansApart cal (is_of name.Script) speed_pair row
RowMeans cal case.ScriptWithin row = MeansUnfound cal (is_of name.Script) SmallScriptsStay row
RowMeans cal case.ScriptContact row =
    (let meant : Class → Bool = λ class. is_of name.Script class && on_contact class in
    MeansUnfound cal meant (AllHideAtRest cal meant) row)
RowMeans cal case.OffsetPedal row = MeansPedal cal (is_of name.Offset) row
RowMeans cal case.OffsetPlate row = MeansApart cal (is_of name.Offset) plate_pair row
RowMeans cal case.OffsetLoad row = MeansApart cal (is_of name.Offset) load_pair row
RowMeans cal case.OffsetSpeed row = MeansApart cal (is_of name.Offset) speed_pair row
RowMeans cal case.OffsetWithin row = MeansUnfound cal (is_of name.Offset) SmallOffsetsStay row
RowMeans cal case.OffsetContact row =
    (let meant : Class → Bool = λ class. is_of name.Offset class && on_contact class in
    MeansUnfound cal meant (AllHideAtRest cal meant) row)
RowMeans cal case.Bus row = MeansUnfound cal (is_of name.Bus) (AllHideAtRest cal (is_of name.Bus)) row
RowMeans cal case.Plate row = MeansUnfound cal (is_of name.Plate) (AllHide cal (is_of name.Plate)) row
RowMeans cal case.Skip row = MeansSpoiled cal (is_of name.Skip) row
RowMeans cal case.Disturb row = MeansSpoiled cal (is_of name.Disturb) row
RowMeans cal case.Flip row = (row.hidden ≡ false) × OfRuns cal (is_of name.Flip) (λ s fault rows.
    FoundIn row.within (λ n. FindsFlip fault.onset n rows)
    × OffAfter row.off (λ n. EachDriveSpan (IsOffAfterFlip fault.onset n) rows))
RowMeans cal case.Halt row = MeansSpoiled cal (is_of name.Halt) row
RowMeans cal case.TimingOutside row = MeansSpoiled cal (sends_outside cal.times) row
RowMeans cal case.TimingInside row =
    MeansUnfound cal (λ class. is_of name.Timing class && not (sends_outside cal.times class))
    MovesStay row
RowMeans cal case.WildOpens row = (row.within ≡ None) × HiddenIn row.hidden (AllHide cal (is_of name.Wild))
    × OfRuns cal (λ class. is_of name.Wild class && opens_path class) (λ s fault rows.
    OffOrdered row.off (λ n. EachDriveSpan (CutsOrdered fault n) rows))
RowMeans cal case.WildNever row =
    MeansUnfound cal (λ class. is_of name.Wild class && not (opens_path class))
    (AllHide cal (is_of name.Wild)) row
RowMeans cal case.Path1Driven row =
    MeansUnfound cal (is_of name.Path1Closed) (AllHide cal (is_of name.Path1Closed)) row
RowMeans cal case.Path1Tested row = MeansTested cal name.Path1Closed row
RowMeans cal case.Path2Driven row =
    MeansUnfound cal (is_of name.Path2Closed) (AllHide cal (is_of name.Path2Closed)) row
RowMeans cal case.Path2Tested row = MeansTested cal name.Path2Closed row
RowMeans cal case.PathOpen row = (row.within ≡ None) × HiddenIn row.hidden (AllHide cal (is_of name.PathOpen))
    × OfRuns cal (is_of name.PathOpen) (λ s fault rows.
    OffAfter row.off (λ n. EachDriveSpan (IsOffFrom fault.onset n) rows))
RowMeans cal case.Lapse row =
    (feeds_to_confirm cal.times.weights ≡ 1 → MeansFoundLapse cal row)
    × (feeds_to_confirm cal.times.weights ≢ 1 → MeansHiddenLapse cal row)

-- F44, by each calibration
abbrev pub NumbersMean : Type 0
NumbersMean =
    (cal : CalibrationParts) (ticks : CoverageTicks) → AreTicks cal ticks → (case : CoverageCase) →
    RowMeans cal case (numbers_of ticks case)
