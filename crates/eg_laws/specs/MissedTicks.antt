-- C102: if level 2 keeps missing ticks, or never runs again, the stages are off R ticks later, whatever level
-- 1 does. Rows stand newest first.
use Rattle.std.specs.Prelude.{◌≡◌, ℕ, ◌+◌, ◌≤◌, ◌<◌, true, false, max, List, [], ◌∷◌, ◌++◌, All, length, Option, Some}
use Rattle.eg_answer.specs.Times.{feeds_to_confirm, reaction_of}
use Rattle.eg_values.specs.Excess.{longest_stretch}
use Rattle.eg_fault.specs.Faults.{IsNoneOrValid}
use Rattle.eg_fault.specs.declared.class.Class.TheVariants.{Lapse}
use Rattle.eg_fault.specs.declared.class.Fault.{Fault}
use Rattle.eg_record.specs.declared.row.Row.{Row}
use Rattle.eg_record.specs.Spans.{EachDriveSpan}
use Rattle.eg_model.specs.History.{Setting}
use Rattle.eg_model.specs.Lapses.{IsLapse}
use Rattle.eg_model.specs.Engines.{BenchEngine}
use Rattle.eg_model.specs.Bench.{Run}
use Rattle.eg_model.specs.Rows.{record_rows}
use Rattle.eg_model.specs.Records.{IsRun, ReactWithin}
use Rattle.eg_laws.specs.Findings.{cutting, Finds}
use Rattle.eg_laws.specs.Availability.{misses_tick}
use Rattle.eg_laws.specs.Coverage.{OpensPath2}
use Rattle.eg_laws.specs.Stretches.{RowsEndStretches}

-- ---- which lapses ----

-- one of the `count` ticks from `tick` on is missed
pub record MissesOneOf (fault : Option Fault) (count tick : ℕ) : Type 0 where
  pub missed : ℕ
  pub from : tick ≤ missed
  pub before : missed < tick + count
  pub misses : misses_tick fault missed ≡ true

-- C102: once a tick is missed, one of any `count` ticks in a row is
pub record KeepsMissing (fault : Option Fault) (count : ℕ) : Type 0 where
  pub lapse : IsLapse fault
  pub again : (first tick : ℕ) → misses_tick fault first ≡ true → first ≤ tick → MissesOneOf fault count tick

-- C102: so it is by each lapse with `every` from 1 to `count`
abbrev pub LapsesKeepMissing : Type 0
LapsesKeepMissing =
    (onset : ℕ) (after : List ℕ) (every count : ℕ) → 1 ≤ every → every ≤ count →
    KeepsMissing (Some (record { onset = onset; class = Lapse after every })) count

abbrev pub never_again : (onset : ℕ) → Fault
never_again onset = record { onset = onset; class = Lapse (0 ∷ []) 1 }

abbrev pub NeverRunsAgain : Type 0
NeverRunsAgain = (onset tick : ℕ) → onset ≤ tick → misses_tick (Some (never_again onset)) tick ≡ true

-- ---- the rows of a drive span that begins at tick `start`, or of its part up to any tick ----

-- the stages are off from `bound` ticks after the onset, or after the span's begin if that is later
abbrev pub CutForGood : (onset bound start : ℕ) → List Row → Type 0
CutForGood onset bound start rows = All (λ row. max onset start + bound ≤ row.tick → row.on ≡ false) rows

-- C102
pub record MissesAreCut (s : Setting) (start : ℕ) (rows : List Row) : Type 0 where
  -- C62 and C65 as under a listed fault
  pub reacts : ReactWithin (reaction_of s.cal.times) s.cal.rules.torque s.cal.rules.threshold start rows
  pub stretches : RowsEndStretches s.cal.rules.threshold (longest_stretch s.cal) start rows
  -- whatever the torque
  pub off : (tick : ℕ) → start ≤ tick → misses_tick s.fault tick ≡ true →
      All (λ row. tick + reaction_of s.cal.times ≤ row.tick → row.on ≡ false) rows
  -- A cutting watch has found something by then. `before` are the rows up to the last of the R ticks; nothing
  -- is said if the span ends sooner.
  pub found : (tick : ℕ) → start ≤ tick → misses_tick s.fault tick ≡ true → (later before : List Row) →
      rows ≡ later ++ before → start + length before ≡ tick + reaction_of s.cal.times → Finds cutting before

-- C102, if N is 1. So `answers` has found something by then, and the stages are off.
abbrev pub MissesOpenPath2 : Setting → (start : ℕ) → List Row → Type 0
MissesOpenPath2 s start rows =
    (tick : ℕ) → start ≤ tick → misses_tick s.fault tick ≡ true →
    OpensPath2 tick (reaction_of s.cal.times) start rows

-- ---- of every record ----

-- claims 93 and 94
abbrev pub RecordsCutMisses : {E : Type 0} → BenchEngine E → Type 0
RecordsCutMisses b =
    (r : Run) → IsRun r → IsNoneOrValid r.setting.fault →
    KeepsMissing r.setting.fault r.setting.cal.times.period →
    EachDriveSpan (MissesAreCut r.setting) (record_rows b r)

-- claim 95
abbrev pub RecordsCutForGood : {E : Type 0} → BenchEngine E → Type 0
RecordsCutForGood b =
    (r : Run) → IsRun r → (onset : ℕ) → r.setting.fault ≡ Some (never_again onset) →
    EachDriveSpan (CutForGood onset (reaction_of r.setting.cal.times)) (record_rows b r)

-- claim 97
abbrev pub RecordsOpenAtMisses : {E : Type 0} → BenchEngine E → Type 0
RecordsOpenAtMisses b =
    (r : Run) → IsRun r → IsLapse r.setting.fault → feeds_to_confirm r.setting.cal.times.weights ≡ 1 →
    EachDriveSpan (MissesOpenPath2 r.setting) (record_rows b r)
