-- The headline of a coupled run (C90): its rows keep the laws that hold of every engine, and four more if the
-- engine shows one load twice. Rows stand newest first.
use Rattle.std.specs.Prelude.{◌≡◌, ◌+◌, ◌≤◌, ℕ, true, false, List, [], ◌∷◌, All, map, length, Some, None}
use Rattle.eg_answer.specs.Times.{feeds_to_confirm, reaction_of, test_ticks_of}
use Rattle.eg_values.specs.Excess.{BoundsLapses, BoundsMissed, ticks_to_confirm, longest_stretch, longest_missed}
use Rattle.eg_fault.specs.Faults.{effects, IsListed}
use Rattle.eg_fault.specs.declared.paths.TheConstants.{PATH_1, PATH_2}
use Rattle.eg_input.specs.declared.answered.PartnerAnswer.{PartnerAnswer}
use Rattle.eg_record.specs.declared.row.Row.{Row}
use Rattle.eg_record.specs.Rows.{AreRows}
use Rattle.eg_record.specs.Spans.{EachDriveSpan, EachTestSpan}
use Rattle.eg_model.specs.History.{Setting}
use Rattle.eg_model.specs.Spans.{next}
use Rattle.eg_model.specs.Rows.{row_of}
use Rattle.eg_laws.specs.Showing.{HasShown, ArePermitted}
use Rattle.eg_model.specs.Premises.{IsProperRun}
use Rattle.eg_model.specs.PowerCycles.{SpansBeginInTurn}
use Rattle.eg_model.specs.Records.{ReactWithin, RowsReactAtOnce, CutFromOnset, CutOneTickAfter}
use Rattle.eg_model.specs.Records.{
  CutSharplyBefore,
  CutStandingExcess,
  ExcessIsBelow,
  ExcessIsShort,
  AreOff,
  NeverFails,
}
use Rattle.eg_laws.specs.Findings.{FindsBeforeOff, FindsFailure, FindsFromOnset, FindsSharply, TellsFlips}
use Rattle.eg_model.specs.Lapses.{IsLapse}
use Rattle.eg_model.specs.Engines.{IsOneLoad}
use Rattle.eg_model.specs.Outputs.{running, without_outputs}
use Rattle.eg_laws.specs.Stretches.{RowsEndStretches, RowsEndStretchesAtOnce}
use Rattle.eg_laws.specs.Bursts.{RowsAreSparse}
use Rattle.eg_laws.specs.Availability.{AvailableIfSpaced, misses_tick}
use Rattle.eg_laws.specs.MissedTicks.{KeepsMissing, never_again, CutForGood, MissesAreCut}
use Rattle.eg_stream.specs.Coupled.{CoupledUnit, entry_by, entries_by, coupled_rows}

-- C90: what holds besides if the engine showed one load twice at each tick
pub record SharpHeadline (s : Setting) (rows : List Row) : Type 0 where
  -- C68, the sharp cut
  pub cuts : s.fault ≡ None → EachDriveSpan (CutOneTickAfter s.cal.rules.torque
      s.cal.rules.kt s.cal.rules.threshold) rows
  pub cuts_before : EachDriveSpan (CutSharplyBefore s.fault s.cal.rules.torque s.cal.rules.kt
      s.cal.rules.threshold) rows
  -- C68: what is found before the onset
  pub finds_sharply : EachDriveSpan (FindsSharply s.fault s.cal.rules.torque s.cal.rules.kt
      s.cal.rules.threshold) rows
  -- C73, availability
  pub stays_available : EachDriveSpan (AvailableIfSpaced s) rows

-- C102, of path 2: it doesn't conduct from R ticks after each missed tick of a drive span on
abbrev pub OpensAfterMisses : Setting → (start : ℕ) → List Row → Type 0
OpensAfterMisses s start rows =
    (tick : ℕ) → start ≤ tick → misses_tick s.fault tick ≡ true →
    All (λ row. tick + reaction_of s.cal.times ≤ row.tick → row.path2 ≡ false) rows

pub record CoupledHeadline (s : Setting) (rows : List Row) (one_load : Type 0) : Type 0 where
  -- C40, power cycles, and C44, when the stages are on
  pub cycles : SpansBeginInTurn (test_ticks_of s.cal.times) rows
  -- C62, the reaction theorem
  pub reacts : IsListed s.fault → EachDriveSpan (ReactWithin (reaction_of s.cal.times)
      s.cal.rules.torque s.cal.rules.threshold) rows
  pub at_once : IsListed s.fault → EachDriveSpan (RowsReactAtOnce s.fault
      s.cal.rules.torque s.cal.rules.threshold) rows
  -- C41, C68, of each test span
  pub unpowered : EachTestSpan AreOff rows
  pub passes : All (NeverFails s.fault) rows
  -- C63, C70, from the onset of a `skip`, `disturb` or `halt`
  pub from_onset : EachDriveSpan (CutFromOnset s.fault (reaction_of s.cal.times)) rows
  pub finds_from_onset : EachDriveSpan (FindsFromOnset s.fault (reaction_of s.cal.times)) rows
  -- C69, no cut without a watch, and C70, of flips
  pub finds_before_off : EachDriveSpan (FindsBeforeOff s.fault) rows
  pub finds_failure : EachTestSpan FindsFailure rows
  pub tells_flips : TellsFlips s.fault rows
  -- C71, the bound for lapses
  pub lapses : BoundsLapses s.cal → IsLapse s.fault →
      EachDriveSpan (CutStandingExcess s.cal) rows
  pub short : BoundsLapses s.cal → IsLapse s.fault →
      EachDriveSpan (ExcessIsShort s.cal) rows
  -- C103, the longest excess under lapses
  pub missed : BoundsMissed s.cal → IsLapse s.fault →
      EachDriveSpan (ExcessIsBelow s.cal.rules.threshold (longest_missed s.cal + 1)) rows
  -- C102, misses that go on
  pub misses : KeepsMissing s.fault s.cal.times.period → EachDriveSpan (MissesAreCut s) rows
  pub for_good : (onset : ℕ) → s.fault ≡ Some (never_again onset) →
      EachDriveSpan (CutForGood onset (reaction_of s.cal.times)) rows
  -- C102, if N is 1
  pub one_verdict : IsLapse s.fault → feeds_to_confirm s.cal.times.weights ≡ 1 →
      EachDriveSpan (OpensAfterMisses s) rows
  -- C65, how long an excess stands, and C66, how often an excess comes
  pub stretches : IsListed s.fault → EachDriveSpan (RowsEndStretches s.cal.rules.threshold
      (longest_stretch s.cal)) rows
  pub stretches_at_once : IsListed s.fault → EachDriveSpan (RowsEndStretchesAtOnce s.fault
      s.cal.rules.torque s.cal.rules.threshold (ticks_to_confirm s.cal)) rows
  pub bursts : EachDriveSpan (RowsAreSparse s.cal.rules.torque s.cal.rules.threshold) rows
  -- C90, if the engine showed one load twice
  pub sharp : one_load → SharpHeadline s rows

abbrev pub HasOneLoad : List PartnerAnswer → Type 0
HasOneLoad answers = All (λ answer. IsOneLoad answer.told) answers

-- C90, under any image and any slice plan
abbrev pub ActsByOutputs : CoupledUnit → List PartnerAnswer → Type 0
ActsByOutputs unit answers =
    (other : CoupledUnit) → other.setting ≡ running other.setting.image unit.setting →
    map without_outputs (coupled_rows other answers) ≡ map without_outputs (coupled_rows unit answers)

-- each answer adds one row, that of its tick, which is the model's next (C53)
abbrev pub RowsComeInTurn : Type 0
RowsComeInTurn =
    (unit : CoupledUnit) (before : List PartnerAnswer) (answer : PartnerAnswer) →
    coupled_rows unit (answer ∷ before)
    ≡ row_of (length before)
    (next unit.setting (entry_by unit (length before) answer) (entries_by unit before))
    ∷ coupled_rows unit before

-- each of these rows has what was answered for it
abbrev pub ShowAnswers : List Row → List PartnerAnswer → Type 0
ShowAnswers [] [] = Unit {0}
ShowAnswers (row ∷ rows) (answer ∷ before) =
    (row.drive ≡ answer.drive) × HasShown row answer.told × ShowAnswers rows before
ShowAnswers _ _ = ⊥

-- These rows show the run of these answers, as `ShowsRun` of `eg_laws` says of the bench: the tick of a row
-- is the count of the rows before it; a row has what was answered, and the permitted torque by the drive rows
-- of its span (C95); if the stages are off, there is no torque; and a path is shown as the fault makes it
-- (C44).
pub record ShowsAnswers (s : Setting) (answers : List PartnerAnswer) (rows : List Row) : Type 0 where
  pub numbered : AreRows rows
  pub answered : ShowAnswers rows answers
  pub permitted : ArePermitted s.cal rows
  pub no_torque : All (λ row. row.on ≡ false → row.torque ≡ 0) rows
  pub closed1 : All (λ row. (effects s.fault row.tick).conducts PATH_1 true ≡ true → row.path1 ≡ true) rows
  pub closed2 : All (λ row. (effects s.fault row.tick).conducts PATH_2 true ≡ true → row.path2 ≡ true) rows
  pub open1 : All (λ row. (effects s.fault row.tick).conducts PATH_1 false ≡ false → row.path1 ≡ false) rows
  pub open2 : All (λ row. (effects s.fault row.tick).conducts PATH_2 false ≡ false → row.path2 ≡ false) rows

-- C90, of these answers. What came in was proper at each tick.
pub record KeepsCoupledHeadline (unit : CoupledUnit) (answers : List PartnerAnswer) : Type 0 where
  pub proper : IsProperRun unit.setting (entries_by unit answers)
  pub shows : ShowsAnswers unit.setting answers (coupled_rows unit answers)
  pub laws : CoupledHeadline unit.setting (coupled_rows unit answers) (HasOneLoad answers)
  pub by_outputs : ActsByOutputs unit answers
