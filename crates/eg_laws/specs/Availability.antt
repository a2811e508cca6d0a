-- C73: wrong answers don't open path 2 before a trip if level 2's misses are spaced or few, and without a
-- ramp no trip comes unless there is a full-efficiency excess. Rows stand newest first.
use Rattle.std.specs.Prelude.{◌≡◌, ◌⊎◌, ℕ, zero, suc, ◌+◌, ◌≤◌, ◌<◌, Bool, true, false, not, if◌then◌else◌, List, [], ◌∷◌, ◌++◌, All, length, Option, Some}
use Rattle.std.specs.List.{list_any}
use Rattle.eg_num.specs.declared.watches.Watches.{Watches}
use Rattle.eg_torque.specs.declared.ramp.TheConstants.{NO_RAMP}
use Rattle.eg_answer.specs.Times.{HasMissSpacing, miss_spacing_of, silent_misses_of}
use Rattle.eg_answer.specs.declared.rules.Rules.{Rules}
use Rattle.eg_values.specs.Calibration.{IsAccepted}
use Rattle.eg_fault.specs.Faults.{effects, IsNoneOrValid}
use Rattle.eg_fault.specs.declared.class.Class.TheVariants.{Lapse}
use Rattle.eg_fault.specs.declared.class.Fault.{Fault}
use Rattle.eg_record.specs.declared.row.Row.{Row}
use Rattle.eg_record.specs.Excess.{full_excess}
use Rattle.eg_record.specs.Spans.{EachDriveSpan}
use Rattle.eg_model.specs.History.{Setting, Tick}
use Rattle.eg_model.specs.Signals.{tripped}
use Rattle.eg_model.specs.Answers.{is_whole}
use Rattle.eg_model.specs.Paths.{latch2}
use Rattle.eg_model.specs.Moments.{moments_of, some_trips}
use Rattle.eg_model.specs.Premises.{AreProper, Follows, is_on_after, full_excesses}
use Rattle.eg_model.specs.Lapses.{IsLapse}
use Rattle.eg_model.specs.Engines.{BenchEngine, IsOneLoad}
use Rattle.eg_model.specs.Bench.{Run}
use Rattle.eg_model.specs.Rows.{record_rows}
use Rattle.eg_model.specs.Records.{IsRun}

-- ---- which lapses ----

-- not all modules of level 2 run at this tick
unfoldable pub misses_tick : Option Fault → ℕ → Bool
misses_tick fault tick = not (is_whole (effects fault tick))

-- of the misses from tick `start` on and before tick `end` any two lie at least `distance` ticks apart
abbrev pub MissesAreSpaced : Option Fault → (distance start end : ℕ) → Type 0
MissesAreSpaced fault distance start end =
    (first second : ℕ) → start ≤ first → second < end → misses_tick fault first ≡ true →
    misses_tick fault second ≡ true → first < second → first + distance ≤ second

-- C73: so lie those of a lapse of a single tick, or of one tick in every `distance` or more
abbrev pub SingleMissesAreSpaced : Type 0
SingleMissesAreSpaced =
    (onset after every distance start end : ℕ) → (every ≡ 0) ⊎ (distance ≤ every) →
    MissesAreSpaced (Some (record { onset = onset; class = Lapse (after ∷ []) every })) distance start end

-- The fault is a lapse whose misses in these ticks lie as far apart as C73 asks. Its other misses don't
-- matter.
pub record IsSpacedLapse (s : Setting) (start end : ℕ) : Type 0 where
  pub has : HasMissSpacing s.cal.times
  pub lapse : IsLapse s.fault
  pub spaced : MissesAreSpaced s.fault (miss_spacing_of s.cal.times) start end

-- ---- the laws, for a history that begins at any tick of a run, by the misses at its own ticks ----

-- C73: before a trip
abbrev pub KeepsPath2 : Type 0
KeepsPath2 =
    (s : Setting) → IsAccepted s.cal → (start : ℕ) (h : List Tick) →
    IsSpacedLapse s start (start + length h) → Follows s.fault start h →
    tripped (moments_of s h) ≡ false → latch2 (moments_of s h) ≡ false

-- of the n ticks of a run from tick `start` on
unfoldable pub missed_ticks : Option Fault → (start n : ℕ) → ℕ
missed_ticks fault start zero = 0
missed_ticks fault start (suc n) =
    (if misses_tick fault (start + n) then 1 else 0) + missed_ticks fault start n

-- C73: before a trip, if few ticks are missed, wherever they lie
abbrev pub FewMissesKeepPath2 : Type 0
FewMissesKeepPath2 =
    (s : Setting) → IsAccepted s.cal → IsLapse s.fault → (start : ℕ) (h : List Tick) →
    Follows s.fault start h → missed_ticks s.fault start (length h) ≤ silent_misses_of s.cal.times →
    tripped (moments_of s h) ≡ false → latch2 (moments_of s h) ≡ false

-- C73: the stages are on at the tick x after h exactly if no trip has come in h
abbrev pub TripsAloneCut : Type 0
TripsAloneCut =
    (s : Setting) → IsAccepted s.cal → (start : ℕ) (h : List Tick) (x : Tick) →
    IsSpacedLapse s start (start + length h) → Follows s.fault start (x ∷ h) →
    is_on_after s h x ≡ not (tripped (moments_of s h))

-- C73. With a ramp a trip may come: after a missed tick level 2's permitted torque is too low if the
-- permitted torque comes down from that tick (`a_miss_cuts_on_the_ramp` of `eg_runs`).
abbrev pub NoTripComes : Type 0
NoTripComes =
    (s : Setting) → IsAccepted s.cal → s.cal.rules.fall ≡ NO_RAMP → IsLapse s.fault →
    (start : ℕ) (h : List Tick) →
    Follows s.fault start h → AreProper s h → All (λ x. IsOneLoad x.entry.shown) h →
    list_any (λ excess. excess) (full_excesses s h) ≡ false → tripped (moments_of s h) ≡ false

-- ---- the rows of a drive span, or of its part up to any tick ----

unfoldable pub trips : Watches → Bool
trips found = some_trips found.mirror found.plate found.load found.speed found.torque

unfoldable pub has_tripped : List Row → Bool
has_tripped rows = list_any (λ row. trips row.found) rows

-- C73, by the rows of a drive span
pub record StaysAvailable (rules : Rules) (rows : List Row) : Type 0 where
  -- before a trip
  pub answered : (later before : List Row) (row : Row) → rows ≡ later ++ row ∷ before →
      has_tripped (row ∷ before) ≡ false → row.found.answers ≡ false
  pub conducts : (later before : List Row) (row : Row) → rows ≡ later ++ row ∷ before →
      has_tripped before ≡ false → row.path2 ≡ true
  pub cut_by_trips : (later before : List Row) (row : Row) → rows ≡ later ++ row ∷ before →
      row.on ≡ not (has_tripped before)
  -- if there is no ramp, and no full-efficiency excess at any of these rows
  pub stays_on : rules.fall ≡ NO_RAMP → All (λ row. full_excess rules.kt rules.threshold row ≡ false) rows →
      All (λ row. row.on ≡ true) rows × (has_tripped rows ≡ false)

abbrev pub AvailableIfSpaced : Setting → (start : ℕ) → List Row → Type 0
AvailableIfSpaced s start rows =
    IsSpacedLapse s start (start + length rows) → StaysAvailable s.cal.rules rows

-- ---- of every record ----

-- claim 23
abbrev pub RecordsStayAvailable : {E : Type 0} → BenchEngine E → Type 0
RecordsStayAvailable b =
    (r : Run) → IsRun r → IsNoneOrValid r.setting.fault →
    EachDriveSpan (AvailableIfSpaced r.setting) (record_rows b r)
