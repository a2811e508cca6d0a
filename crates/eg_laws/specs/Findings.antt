-- C69 and C70: the stages are off only after a watch found something, a report names this watch, and what
-- spoils the answers is found in time. C68: `torque` alone finds before an onset. Rows stand newest first.
use Rattle.std.specs.Prelude.{◌≡◌, ℕ, ◌+◌, ◌<◌, ◌==◌, Bool, true, false, ◌&&◌, max, nat_le, IsTrue, List, [], ◌∷◌, ◌++◌, All, Contains, length, map, Option, Some, None, IfSome}
use Rattle.eg_num.specs.Windows.{WeightParts, is_confirmed, is_first}
use Rattle.eg_answer.specs.Times.{reaction_of}
use Rattle.eg_fault.specs.Faults.{IsNoneOrValid, opens_path}
use Rattle.eg_fault.specs.declared.class.Class.{Class}
use Rattle.eg_fault.specs.declared.class.Class.TheVariants.{Flip}
use Rattle.eg_fault.specs.declared.class.Fault.{Fault}
use Rattle.eg_record.specs.declared.row.Row.{Row}
use Rattle.eg_record.specs.declared.watch.Watch.{Watch}
use Rattle.eg_record.specs.declared.watch.Watch.TheVariants.{Mirror, Plate, Load, Speed, Torque, Answers, Start}
use Rattle.eg_record.specs.declared.summary.Summary.{Summary}
use Rattle.eg_record.specs.Detection.{is_found}
use Rattle.eg_record.specs.Excess.{full_excess}
use Rattle.eg_record.specs.Spans.{EachDriveSpan, EachTestSpan}
use Rattle.eg_model.specs.Reaction.{spoils_answers}
use Rattle.eg_model.specs.Engines.{BenchEngine}
use Rattle.eg_model.specs.Bench.{Run}
use Rattle.eg_model.specs.Rows.{record_rows, report_of}
use Rattle.eg_model.specs.Records.{IsRun, is_before_onset}

-- ---- which watches, and which faults ----

-- all watches but `pedal` and `start`
abbrev pub cutting : List Watch
cutting = Mirror ∷ Plate ∷ Load ∷ Speed ∷ Torque ∷ Answers ∷ []

-- one of these watches finds something at one of these rows
pub record Finds (which : List Watch) (rows : List Row) : Type 0 where
  pub row : Row
  pub stands : Contains rows row
  pub watch : Watch
  pub is_one : Contains which watch
  pub found : IsTrue (is_found row.found watch)

-- a fault that may open a path by itself has begun by this tick
unfoldable pub opens_by_itself : Option Fault → ℕ → Bool
opens_by_itself None tick = false
opens_by_itself (Some fault) tick = nat_le fault.onset tick && opens_path fault.class

unfoldable pub is_flip : Class → Bool
is_flip (Flip word mask) = true
is_flip _ = false

unfoldable pub flips_at : Option Fault → ℕ → Bool
flips_at None tick = false
flips_at (Some fault) tick = is_flip fault.class && tick == fault.onset

-- ---- the rows of a span that begins at tick `start`, or of its part up to any tick ----

-- C69
abbrev pub FindsBeforeOff : Option Fault → (start : ℕ) → List Row → Type 0
FindsBeforeOff fault start rows =
    (later before : List Row) (row : Row) → rows ≡ later ++ row ∷ before → row.on ≡ false →
    opens_by_itself fault row.tick ≡ false → Finds cutting before

-- C69: `start` has found the failed test
abbrev pub FindsFailure : (start : ℕ) → List Row → Type 0
FindsFailure start rows =
    (later before : List Row) (row : Row) → rows ≡ later ++ row ∷ before → row.testing ≡ false →
    Finds (Start ∷ []) before

-- C70: under `skip`, `disturb` and `halt`. `before` are the rows of the span up to the last of the `bound`
-- ticks; nothing is said if the span ends sooner.
abbrev pub FindsFromOnset : Option Fault → (bound start : ℕ) → List Row → Type 0
FindsFromOnset fault bound start rows = IfSome fault (λ f. spoils_answers f.class ≡ true →
    (later before : List Row) → rows ≡ later ++ before →
    start + length before ≡ max f.onset start + bound → Finds cutting before)

-- ---- the rows of a run ----

-- C70: `mirror` finds exactly at the onset of a `flip`
abbrev pub TellsFlips : Option Fault → List Row → Type 0
TellsFlips fault rows = All (λ row. row.found.mirror ≡ flips_at fault row.tick) rows

-- ---- the report of a run ----

pub record IsNamedBefore (tick : ℕ) (first : Option (Watch × ℕ)) : Type 0 where
  pub detection : Watch × ℕ
  pub is : first ≡ Some detection
  pub earlier : detection.1 < tick

-- C69, for a report under this fault, if any
pub record NamesWhatCuts (fault : Option Fault) (report : Summary) : Type 0 where
  pub named : (tick : ℕ) → report.off ≡ Some tick → opens_by_itself fault tick ≡ false →
      IsNamedBefore tick report.first
  -- So if a report tells such a tick and names no watch, `path-open` or a `wild` that opens has begun.
  pub unnamed : (tick : ℕ) → report.first ≡ None → report.off ≡ Some tick → opens_by_itself fault tick ≡ true

-- C68: what is found at a row, `before` being the rows of the drive span before it
pub record FindsExcessAlone (weights : WeightParts) (kt threshold : ℕ) (row : Row) (before : List Row)
    : Type 0 where
  pub torque : row.found.torque ≡ is_first weights (map (full_excess kt threshold) (row ∷ before))
  pub answers : is_confirmed weights (map (full_excess kt threshold) (row ∷ before)) ≡ false →
      row.found.answers ≡ false
  pub mirror : row.found.mirror ≡ false
  pub pedal : row.found.pedal ≡ false
  pub plate : row.found.plate ≡ false
  pub load : row.found.load ≡ false
  pub speed : row.found.speed ≡ false

-- C68: before the onset of the fault, if there is one
abbrev pub FindsSharply : Option Fault → WeightParts → (kt threshold start : ℕ) → List Row → Type 0
FindsSharply fault weights kt threshold start rows =
    (later before : List Row) (row : Row) → rows ≡ later ++ row ∷ before →
    is_before_onset fault row.tick ≡ true → FindsExcessAlone weights kt threshold row before

-- ---- of every record, and every report ----

-- claim 11
abbrev pub RecordsFindSharply : {E : Type 0} → BenchEngine E → Type 0
RecordsFindSharply b =
    (r : Run) → IsRun r →
    EachDriveSpan (FindsSharply r.setting.fault r.setting.cal.rules.torque r.setting.cal.rules.kt
    r.setting.cal.rules.threshold) (record_rows b r)

-- claim 13
abbrev pub RecordsFindBeforeOff : {E : Type 0} → BenchEngine E → Type 0
RecordsFindBeforeOff b = (r : Run) → EachDriveSpan (FindsBeforeOff r.setting.fault) (record_rows b r)

-- claim 20
abbrev pub RecordsFindFailures : {E : Type 0} → BenchEngine E → Type 0
RecordsFindFailures b = (r : Run) → EachTestSpan FindsFailure (record_rows b r)

-- claim 16
abbrev pub RecordsFindFromOnset : {E : Type 0} → BenchEngine E → Type 0
RecordsFindFromOnset b =
    (r : Run) → IsRun r → IsNoneOrValid r.setting.fault →
    EachDriveSpan (FindsFromOnset r.setting.fault (reaction_of r.setting.cal.times)) (record_rows b r)

-- claim 17
abbrev pub RecordsTellFlips : {E : Type 0} → BenchEngine E → Type 0
RecordsTellFlips b = (r : Run) → TellsFlips r.setting.fault (record_rows b r)

-- claim 14, whatever the run is called
abbrev pub ReportsNameWhatCuts : {E : Type 0} → BenchEngine E → Type 0
ReportsNameWhatCuts b =
    (r : Run) (name : List ℕ) → NamesWhatCuts r.setting.fault (report_of b name r)
