-- C99: by when path 2 opens if no answer is good, by when a closed path is found in a
-- test, and at which tick `answers` finds. Rows stand newest first, and the ticks of a span are counted from
-- 0.
use Rattle.std.specs.Prelude.{◌≡◌, ℕ, ◌+◌, ◌*◌, ◌≤◌, ◌==◌, Bool, true, false, not, ◌&&◌, ◌||◌, max, nat_le, List, [], ◌∷◌, ◌++◌, All, length, Option, Some, None, IfSome, if◌then◌else◌}
use Rattle.std.specs.Option.{option_or}
use Rattle.eg_answer.specs.Times.{TimeParts, feeds_to_confirm, reaction_of, test_ticks_of}
use Rattle.eg_answer.specs.Periods.{period_of, place_of}
use Rattle.eg_fault.specs.Faults.{IsNoneOrValid, IsListed}
use Rattle.eg_fault.specs.Classes.{may_change_answers}
use Rattle.eg_fault.specs.declared.class.Class.{Class}
use Rattle.eg_fault.specs.declared.class.Class.TheVariants.{Timing, Path1Closed, Path2Closed}
use Rattle.eg_fault.specs.declared.class.Fault.{Fault}
use Rattle.eg_record.specs.declared.row.Row.{Row}
use Rattle.eg_record.specs.Spans.{EachDriveSpan, EachTestSpan}
use Rattle.eg_model.specs.Reaction.{spoils_answers}
use Rattle.eg_model.specs.Engines.{BenchEngine}
use Rattle.eg_model.specs.Bench.{Run}
use Rattle.eg_model.specs.Rows.{record_rows}
use Rattle.eg_model.specs.Records.{IsRun}
use Rattle.eg_laws.specs.Findings.{cutting, Finds}
use Rattle.eg_laws.specs.Paths.{trips}

-- ---- path 2 ----

-- path 2 is open from `bound` ticks after the onset, or after tick `start`, at which the drive span begins,
-- if that is later
abbrev pub OpensPath2 : (onset bound start : ℕ) → List Row → Type 0
OpensPath2 onset bound start rows = All (λ row. max onset start + bound ≤ row.tick → row.path2 ≡ false) rows

-- C99: under `skip`, `disturb` and `halt`
abbrev pub SpoiledOpenPath2 : Option Fault → (bound start : ℕ) → List Row → Type 0
SpoiledOpenPath2 fault bound start rows = IfSome fault (λ f. spoils_answers f.class ≡ true →
    OpensPath2 f.onset bound start rows)

-- `timing` with a tick outside the answer window
unfoldable pub sends_outside : TimeParts → Class → Bool
sends_outside times (Timing offset) = not (nat_le times.first offset && nat_le offset times.last)
sends_outside times _ = false

-- C99: under such a `timing` path 2 opens likewise, and a cutting watch has found something by then. `before`
-- are the rows of the span up to the last of these ticks; nothing is said if the span ends sooner.
pub record IsCutInTime (onset bound start : ℕ) (rows : List Row) : Type 0 where
  pub opens : OpensPath2 onset bound start rows
  pub found : (later before : List Row) → rows ≡ later ++ before →
      start + length before ≡ max onset start + bound → Finds cutting before

abbrev pub MovedAreCut : TimeParts → Option Fault → (bound start : ℕ) → List Row → Type 0
MovedAreCut times fault bound start rows = IfSome fault (λ f. sends_outside times f.class ≡ true →
    IsCutInTime f.onset bound start rows)

-- ---- a path that is held closed ----

unfoldable pub holds_closed : Class → Bool
holds_closed Path1Closed = true
holds_closed Path2Closed = true
holds_closed _ = false

-- C99: in a test span; `read_back` is W
abbrev pub ClosedAreFound : Option Fault → (read_back start : ℕ) → List Row → Type 0
ClosedAreFound fault read_back start rows = IfSome fault (λ f. holds_closed f.class ≡ true →
    (later before : List Row) (row : Row) → rows ≡ later ++ row ∷ before → length before ≡ read_back →
    f.onset ≤ row.tick → row.found.start ≡ true)

-- ---- at which tick wrong answers are found ----

unfoldable pub spoils_at : Option Fault → ℕ → Bool
spoils_at None tick = false
spoils_at (Some fault) tick = nat_le fault.onset tick && spoils_answers fault.class

-- C99: the first of these rows from which on no answer is good, by its number in the span: a watch trips
-- there, or the fault acts. (After a trip no answer is sent.)
unfoldable pub silent_from : Option Fault → List Row → Option ℕ
silent_from fault [] = None
silent_from fault (row ∷ before) = option_or (silent_from fault before)
    (if trips row || spoils_at fault row.tick then Some (length before) else None)

-- C99: the first period whose verdict is wrong if no answer is good from this tick on
unfoldable pub wrong_from : TimeParts → ℕ → ℕ
wrong_from times tick =
    if nat_le (place_of times tick) times.send then period_of times tick else period_of times tick + 1

-- wrong answers are confirmed at this tick if no answer is good from tick `from` on
unfoldable pub confirmed_at : TimeParts → Option ℕ → ℕ → Bool
confirmed_at times None tick = false
confirmed_at times (Some from) tick =
    tick + 1 == (wrong_from times from + feeds_to_confirm times.weights) * times.period

-- C99, for the rows of a drive span
abbrev pub FindsAnswersExactly : TimeParts → Option Fault → (start : ℕ) → List Row → Type 0
FindsAnswersExactly times fault start rows =
    (later before : List Row) (row : Row) → rows ≡ later ++ row ∷ before →
    row.found.answers ≡ confirmed_at times (silent_from fault (row ∷ before)) (length before)

-- neither `timing` nor `wild`
abbrev pub SparesAnswers : Option Fault → Type 0
SparesAnswers fault = IfSome fault (λ f. may_change_answers f.class ≡ false)

-- ---- of every record ----

-- claim 81
abbrev pub RecordsOpenPath2 : {E : Type 0} → BenchEngine E → Type 0
RecordsOpenPath2 b =
    (r : Run) → IsRun r → IsNoneOrValid r.setting.fault →
    EachDriveSpan (SpoiledOpenPath2 r.setting.fault (reaction_of r.setting.cal.times)) (record_rows b r)

-- claim 82
abbrev pub RecordsCutMoved : {E : Type 0} → BenchEngine E → Type 0
RecordsCutMoved b =
    (r : Run) → IsRun r →
    EachDriveSpan (MovedAreCut r.setting.cal.times r.setting.fault (reaction_of r.setting.cal.times))
    (record_rows b r)

-- claim 84
abbrev pub RecordsFindClosed : {E : Type 0} → BenchEngine E → Type 0
RecordsFindClosed b =
    (r : Run) →
    EachTestSpan (ClosedAreFound r.setting.fault (test_ticks_of r.setting.cal.times)) (record_rows b r)

-- claim 83
abbrev pub RecordsFindAnswers : {E : Type 0} → BenchEngine E → Type 0
RecordsFindAnswers b =
    (r : Run) → IsRun r → IsListed r.setting.fault → SparesAnswers r.setting.fault →
    EachDriveSpan (FindsAnswersExactly r.setting.cal.times r.setting.fault) (record_rows b r)
