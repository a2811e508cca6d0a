-- The headline (claim 1): what holds of the record of one run on the bench, of either engine. Each field
-- names the faults under which it holds. Rows stand newest first. That no image changes a protected word
-- (C23) is said of each slice, in `outside` of `IsSlice`, which `eg_host::Host::slice` keeps.
use Rattle.std.specs.Prelude.{◌≡◌, ℕ, List, All, Option, Some, None}
use Rattle.eg_num.specs.Drive.{DriveRow}
use Rattle.eg_answer.specs.Times.{reaction_of, test_ticks_of}
use Rattle.eg_values.specs.Excess.{BoundsLapses, ticks_to_confirm, longest_stretch}
use Rattle.eg_fault.specs.Faults.{IsListed}
use Rattle.eg_word.specs.declared.registers.Trap.{Trap}
use Rattle.eg_record.specs.declared.row.Row.{Row}
use Rattle.eg_record.specs.declared.summary.Summary.{Summary}
use Rattle.eg_record.specs.Detection.{IsFirstDetection}
use Rattle.eg_record.specs.Excess.{first_confirmed}
use Rattle.eg_record.specs.Stages.{IsFirstOff}
use Rattle.eg_record.specs.Spans.{EachDriveSpan, EachTestSpan}
use Rattle.eg_model.specs.History.{Setting}
use Rattle.eg_model.specs.Engines.{BenchEngine, bench_of}
use Rattle.eg_laws.specs.Showing.{ShowsRun}
use Rattle.eg_model.specs.PowerCycles.{SpansBeginInTurn}
use Rattle.eg_model.specs.Rows.{record_trap}
use Rattle.eg_model.specs.Records.{ReactWithin, RowsReactAtOnce, CutFromOnset, CutOneTickAfter, CutSharplyBefore, CutStandingExcess, ExcessIsShort, AreOff, NeverFails}
use Rattle.eg_laws.specs.Findings.{FindsBeforeOff, FindsFailure, FindsFromOnset, FindsSharply, TellsFlips, NamesWhatCuts}
use Rattle.eg_model.specs.Lapses.{IsLapse}
use Rattle.eg_model.specs.Outputs.{with_level1, ActByOutputs}
use Rattle.eg_laws.specs.Stretches.{RowsEndStretches, RowsEndStretchesAtOnce}
use Rattle.eg_laws.specs.Bursts.{RowsAreSparse}
use Rattle.eg_laws.specs.Availability.{AvailableIfSpaced}
use Rattle.eg_laws.specs.MissedTicks.{KeepsMissing, never_again, CutForGood, MissesAreCut}
use Rattle.eg_model.specs.EngineRuns.{EngineRun, rows_of_run, report_of_run}

-- The record is given by its engine, setting, drive and rows, level 1's first trap, its report under each
-- name, and its rows under each image and slice plan.
pub record Headline {E : Type 0} (b : BenchEngine E) (s : Setting) (drive : List DriveRow) (rows : List Row)
    (trap : Option (Trap × ℕ)) (report : List ℕ → Summary) (rows_under : List ℕ → List (List ℕ) → List Row)
    : Type 0 where
  -- C55: the rows show the drive, the permitted torque (C95) and what the engine shows from step to step.
  -- There is torque only while the stages are on. A path is shown as the fault makes it (C44).
  pub shows : ShowsRun b s drive rows
  -- C40 and C41, power cycles, and C44, when the stages are on. In a test span only `start` and `mirror` find
  -- something.
  pub cycles : SpansBeginInTurn (test_ticks_of s.cal.times) rows
  -- C62, the reaction theorem
  pub reacts : IsListed s.fault → EachDriveSpan (ReactWithin (reaction_of s.cal.times)
      s.cal.rules.torque s.cal.rules.threshold) rows
  pub at_once : IsListed s.fault → EachDriveSpan (RowsReactAtOnce s.fault
      s.cal.rules.torque s.cal.rules.threshold) rows
  -- C41, of each test span
  pub unpowered : EachTestSpan AreOff rows
  -- C68, the sharp cut
  pub passes : All (NeverFails s.fault) rows
  pub cuts : s.fault ≡ None → EachDriveSpan (CutOneTickAfter s.cal.rules.torque
      s.cal.rules.kt s.cal.rules.threshold) rows
  -- C68, before the onset of any fault
  pub cuts_before : EachDriveSpan (CutSharplyBefore s.fault s.cal.rules.torque s.cal.rules.kt
      s.cal.rules.threshold) rows
  -- C63, from the onset of a `skip`, `disturb` or `halt`
  pub from_onset : EachDriveSpan (CutFromOnset s.fault (reaction_of s.cal.times)) rows
  -- C69, no cut without a watch
  pub finds_before_off : EachDriveSpan (FindsBeforeOff s.fault) rows
  pub finds_failure : EachTestSpan FindsFailure rows
  -- C68: what is found before the onset
  pub finds_sharply : EachDriveSpan (FindsSharply s.fault s.cal.rules.torque s.cal.rules.kt
      s.cal.rules.threshold) rows
  -- C70: claims 16 and 17
  pub finds_from_onset : EachDriveSpan (FindsFromOnset s.fault (reaction_of s.cal.times)) rows
  pub tells_flips : TellsFlips s.fault rows
  -- C71, the bound for lapses. By some calibrations, such as the reference calibration, no excess stands so
  -- long; then only the second field says something.
  pub lapses : BoundsLapses s.cal → IsLapse s.fault →
      EachDriveSpan (CutStandingExcess s.cal) rows
  pub short : BoundsLapses s.cal → IsLapse s.fault →
      EachDriveSpan (ExcessIsShort s.cal) rows
  -- C102, misses that go on
  pub misses : KeepsMissing s.fault s.cal.times.period → EachDriveSpan (MissesAreCut s) rows
  pub for_good : (onset : ℕ) → s.fault ≡ Some (never_again onset) →
      EachDriveSpan (CutForGood onset (reaction_of s.cal.times)) rows
  -- C65, how long an excess stands
  pub stretches : IsListed s.fault → EachDriveSpan (RowsEndStretches s.cal.rules.threshold
      (longest_stretch s.cal)) rows
  pub stretches_at_once : IsListed s.fault → EachDriveSpan (RowsEndStretchesAtOnce s.fault
      s.cal.rules.torque s.cal.rules.threshold (ticks_to_confirm s.cal)) rows
  -- C66, how often an excess comes
  pub bursts : EachDriveSpan (RowsAreSparse s.cal.rules.torque s.cal.rules.threshold) rows
  -- C73, availability
  pub stays_available : EachDriveSpan (AvailableIfSpaced s) rows
  -- C59, the report, whatever name it gives the run
  pub detects : (name : List ℕ) → IsFirstDetection rows (report name).first
  pub tells_when_off : (name : List ℕ) → IsFirstOff rows (report name).off
  pub tells_trap : (name : List ℕ) → (report name).trap ≡ trap
  pub tells_when_confirmed : (name : List ℕ) → (report name).confirmed ≡
      first_confirmed s.cal.rules.torque s.cal.rules.threshold rows
  pub tells_bound : (name : List ℕ) → (report name).bound ≡ reaction_of s.cal.times
  pub tells_name : (name : List ℕ) → (report name).name ≡ name
  -- C69, of the report
  pub names : (name : List ℕ) → NamesWhatCuts s.fault (report name)
  -- C70: claim 24
  pub by_outputs : (image : List ℕ) (plan : List (List ℕ)) → ActByOutputs rows (rows_under image plan)

abbrev pub KeepsHeadline : EngineRun → Type 0
KeepsHeadline r =
    Headline (bench_of r.engine) r.run.setting r.run.drive (rows_of_run r)
    (record_trap (bench_of r.engine) r.run) (λ name. report_of_run name r)
    (λ image plan. rows_of_run (record r { run = with_level1 image plan r.run }))
