-- C100: under which faults there are runs of every length in which no watch finds anything.
use Rattle.std.specs.Prelude.{ℤ, pos, negsuc, ◌+◌, ◌-◌, ◌/◌, ◌≤◌, ◌<◌, slice_index, ◌==◌, ◌||◌, nat_le, min, max, ◌⊎◌, ◌≡◌, ◌≢◌, ℕ, Bool, true, false, List, [], ◌∷◌, All, length, replicate, Some, if◌then◌else◌}
use Rattle.eg_num.specs.Arithmetic.{estimate}
use Rattle.eg_num.specs.Interpolation.{grid_at}
use Rattle.eg_sensor.specs.declared.tracks.TheConstants.{PEDAL_1, PEDAL_2, PLATE_1, PLATE_2, PAIRED_TRACKS}
use Rattle.eg_answer.specs.Times.{TimeParts, HasMissSpacing, miss_spacing_of}
use Rattle.eg_answer.specs.Periods.{place_of}
use Rattle.eg_values.specs.Calibration.{CalibrationParts, IsAccepted}
use Rattle.eg_fault.specs.Faults.{IsValid}
use Rattle.eg_fault.specs.declared.class.Class.{Class}
use Rattle.eg_fault.specs.declared.class.Class.TheVariants.{Script, Offset, Bus, Lapse, Timing}
use Rattle.eg_fault.specs.declared.class.Fault.{Fault}
use Rattle.eg_record.specs.declared.row.Row.{Row}
use Rattle.eg_record.specs.declared.watch.Watch.{Watch}
use Rattle.eg_record.specs.Detection.{is_found}
use Rattle.eg_model.specs.Engines.{BenchEngine, diesel}
use Rattle.eg_model.specs.Bench.{Run}
use Rattle.eg_model.specs.Rows.{record_rows}
use Rattle.eg_model.specs.Records.{IsRun}
use Rattle.eg_model.specs.Lapses.{IsLapse}
use Rattle.eg_laws.specs.Availability.{MissesAreSpaced}
use Rattle.eg_laws.specs.SharpUnder.{leaves_readings}

abbrev pub FindsNothing : Row → Type 0
FindsNothing row = (watch : Watch) → is_found row.found watch ≡ false

-- A run of n ticks without a reset in which no watch finds anything. Level 1 has no code, and executes
-- nothing.
pub record HiddenRun {E : Type 0} (b : BenchEngine E) (cal : CalibrationParts) (fault : Fault) (n : ℕ)
    : Type 0 where
  pub run : Run
  pub proper : IsRun run
  pub cal_is : run.setting.cal ≡ cal
  pub fault_is : run.setting.fault ≡ Some fault
  pub image_is : run.setting.image ≡ []
  pub plan_is : run.plan ≡ replicate 9 0 ∷ []
  pub size : length run.drive ≡ n
  pub driven : All (λ drive. drive.reset ≡ false) run.drive
  pub hidden : All FindsNothing (record_rows b run)

-- C100. A run may be as long as one likes, so that it may go on as long as one likes after the onset.
abbrev pub CanStayHidden : {E : Type 0} → BenchEngine E → CalibrationParts → Fault → Type 0
CanStayHidden b cal fault = (n : ℕ) → HiddenRun b cal fault n

-- ---- by every accepted calibration ----

-- `plate`, `wild`, `path1-closed`, `path2-closed` and `path-open`
unfoldable pub always_hides : Class → Bool
always_hides (Timing offset) = false
always_hides other = leaves_readings other

-- claim 85
abbrev pub ReadingsApartHide : {E : Type 0} → BenchEngine E → Type 0
ReadingsApartHide b =
    (cal : CalibrationParts) → IsAccepted cal → (fault : Fault) → IsValid fault →
    always_hides fault.class ≡ true → CanStayHidden b cal fault

-- ---- lapses ----

-- a lapse with misses as far apart as C73 asks; a lapse of a single tick is one (`SingleMissesAreSpaced`)
pub record MissesFarApart (cal : CalibrationParts) (fault : Fault) : Type 0 where
  pub has : HasMissSpacing cal.times
  pub lapse : IsLapse (Some fault)
  pub spaced : (end : ℕ) → MissesAreSpaced (Some fault) (miss_spacing_of cal.times) 0 end

-- claim 86
abbrev pub FarMissesHide : {E : Type 0} → BenchEngine E → Type 0
FarMissesHide b =
    (cal : CalibrationParts) → IsAccepted cal → (fault : Fault) → IsValid fault →
    MissesFarApart cal fault → CanStayHidden b cal fault

-- claim 86, for a lapse that leaves out one tick, or one in every so many
abbrev pub SingleMissesHide : {E : Type 0} → BenchEngine E → Type 0
SingleMissesHide b =
    (cal : CalibrationParts) → IsAccepted cal → HasMissSpacing cal.times → (onset after every : ℕ) →
    (every ≡ 0) ⊎ (miss_spacing_of cal.times ≤ every) →
    IsValid (record { onset = onset; class = Lapse (after ∷ []) every }) →
    CanStayHidden b cal (record { onset = onset; class = Lapse (after ∷ []) every })

-- one tick is left out, so many after the onset
abbrev pub single_miss : (onset after : ℕ) → Fault
single_miss onset after = record { onset = onset; class = Lapse (after ∷ []) 0 }

-- Claim 98. Each calibration has such ticks: those behind a send tick, for example.
abbrev pub OneMissHides : {E : Type 0} → BenchEngine E → Type 0
OneMissHides b =
    (cal : CalibrationParts) → IsAccepted cal → cal.times.weights.up < cal.times.weights.limit →
    (onset after : ℕ) → place_of cal.times (onset + after) ≢ cal.times.send →
    IsValid (single_miss onset after) → CanStayHidden b cal (single_miss onset after)

-- ---- offsets ----

-- how far an offset moves a reading up or down, and how far up
unfoldable pub distance_of : ℤ → ℕ
distance_of (pos more) = more
distance_of (negsuc less) = less + 1

unfoldable pub rise_of : ℤ → ℕ
rise_of (pos more) = more
rise_of (negsuc less) = 0

-- Claim 87: within the pair's tolerance. On a track of the load the greatest raise also permits the estimate
-- of the greatest load that is then read.
pub record IsSmallOffset (cal : CalibrationParts) (track : ℕ) (add : ℤ) : Type 0 where
  pub paired : track < PAIRED_TRACKS
  pub small : distance_of add ≤ slice_index cal.rules.tolerances (track / 2)
  pub load : track / 2 ≡ 2 →
      estimate cal.rules.kt (1000 + rise_of add) ≤ 10000 + cal.rules.threshold

-- claim 87
abbrev pub SmallOffsetsHide : {E : Type 0} → BenchEngine E → Type 0
SmallOffsetsHide b =
    (cal : CalibrationParts) → IsAccepted cal → (onset track : ℕ) (add : ℤ) →
    IsValid (record { onset = onset; class = Offset track add }) → IsSmallOffset cal track add →
    CanStayHidden b cal (record { onset = onset; class = Offset track add })

-- ---- scripts ----

-- A sound track of pedal or speed always reads the same while the pedal and the engine are at rest: 1000 if
-- it is the second track of the pedal, else 0.
abbrev pub IsStillTrack : ℕ → Type 0
IsStillTrack track = (track / 2 ≡ 0) ⊎ (track / 2 ≡ 3)

unfoldable pub still_reading : ℕ → ℕ
still_reading track = if track == PEDAL_2 then 1000 else 0

-- claim 92: no value lies further from that reading than the pair's tolerance
pub record IsSmallScript (cal : CalibrationParts) (track : ℕ) (values : List ℕ) : Type 0 where
  pub still : IsStillTrack track
  pub near : All (λ value. (value - still_reading track) + (still_reading track - value)
      ≤ slice_index cal.rules.tolerances (track / 2)) values

-- claim 92
abbrev pub SmallScriptsHide : {E : Type 0} → BenchEngine E → Type 0
SmallScriptsHide b =
    (cal : CalibrationParts) → IsAccepted cal → (onset track : ℕ) (values : List ℕ) →
    IsValid (record { onset = onset; class = Script track values }) → IsSmallScript cal track values →
    CanStayHidden b cal (record { onset = onset; class = Script track values })

-- ---- at rest ----

-- At some speed there is no excess at rest: what the permit table gives at pedal 0 permits the load that the
-- engine shows before its first step.
pub record IsCalmAtRest {E : Type 0} (b : BenchEngine E) (cal : CalibrationParts) : Type 0 where
  pub speed : ℕ
  pub within : speed ≤ 8000
  pub calm : estimate cal.rules.kt (b.shows (b.rest cal.plant)).load_1
      ≤ grid_at cal.rules.permit 0 speed + cal.rules.threshold

-- An offset that is cut off where pedal and plate stand at 0: down on a first track, or up on a second one,
-- which falls.
unfoldable pub is_cut_off : ℕ → ℤ → Bool
is_cut_off track (pos more) = track == PEDAL_2 || track == PLATE_2
is_cut_off track (negsuc less) = track == PEDAL_1 || track == PLATE_1

-- These change nothing while pedal, plate and raise are 0: a disturbed raise, which its check word refuses;
-- whatever a contact of the brake reads; and an offset that is cut off.
unfoldable pub hides_at_rest : Class → Bool
hides_at_rest (Bus mask) = true
hides_at_rest (Script track values) = nat_le PAIRED_TRACKS track
hides_at_rest (Offset track add) = nat_le PAIRED_TRACKS track || is_cut_off track add
hides_at_rest _ = false

-- claim 89
abbrev pub RestHides : {E : Type 0} → BenchEngine E → Type 0
RestHides b =
    (cal : CalibrationParts) → IsAccepted cal → IsCalmAtRest b cal → (fault : Fault) → IsValid fault →
    hides_at_rest fault.class ≡ true → CanStayHidden b cal fault

-- claim 89: it shows no load at rest
abbrev pub DieselIsCalm : Type 0
DieselIsCalm = (cal : CalibrationParts) → IsCalmAtRest diesel cal

-- ---- a send tick that is moved ----

-- The onset's period has one answer: the onset isn't later than both the usual and the moved send tick, or is
-- later than both.
abbrev pub KeepsOneAnswer : TimeParts → (onset offset : ℕ) → Type 0
KeepsOneAnswer times onset offset =
    (place_of times onset ≤ min times.send offset) ⊎ (max times.send offset < place_of times onset)

-- claim 88
abbrev pub MovesInWindowHide : {E : Type 0} → BenchEngine E → Type 0
MovesInWindowHide b =
    (cal : CalibrationParts) → IsAccepted cal → (onset offset : ℕ) →
    IsValid (record { onset = onset; class = Timing offset }) → cal.times.first ≤ offset →
    offset ≤ cal.times.last →
    KeepsOneAnswer cal.times onset offset ⊎ (cal.times.weights.up < cal.times.weights.limit) →
    CanStayHidden b cal (record { onset = onset; class = Timing offset })
