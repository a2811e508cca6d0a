-- The headline of coupled runs: by the laws of records, which hold of each engine of the bench, and so of the one that
-- shows what the partner answered.
use Rattle.std.proofs.Common.{◌≡◌, ◌+◌, ◌≤◌, ◌∙◌, max, length, arith, sym, ap, ap₂, refl, subst, ℕ, true, false, List, [], ◌∷◌, map, All}
use Rattle.std.proofs.lemmas.List.Elements.{All-head, All-tail, All-cons, All-nil, All-weaker}
use Rattle.eg_answer.specs.Times.{reaction_of, test_ticks_of}
use Rattle.eg_values.specs.Calibration.{IsAccepted}
use Rattle.eg_values.specs.Excess.{ticks_to_confirm, longest_stretch, longest_missed}
use Rattle.eg_fault.specs.Faults.{effects, IsNoneOrValid}
use Rattle.eg_fault.specs.declared.paths.TheConstants.{PATH_1, PATH_2}
use Rattle.eg_plant.specs.Engine.{Shown}
use Rattle.eg_record.specs.declared.row.Row.{Row}
use Rattle.eg_record.specs.Rows.{AreRows}
use Rattle.eg_record.specs.Spans.{EachDriveSpan, EachTestSpan}
use Rattle.eg_input.specs.declared.answered.PartnerAnswer.{PartnerAnswer}
use Rattle.eg_model.specs.History.{Setting, Moment}
use Rattle.eg_model.specs.Spans.{moments}
use Rattle.eg_model.specs.PowerCycles.{SpansBeginInTurn}
use Rattle.eg_model.specs.Engines.{BenchEngine, KeepsBenchLaws, IsOneLoad, ShowsOneLoad}
use Rattle.eg_model.specs.Bench.{Run}
use Rattle.eg_model.specs.Rows.{row_of, rows_of, record_rows}
use Rattle.eg_model.specs.Records.{IsRun, ReactWithin, RowsReactAtOnce, CutFromOnset, CutOneTickAfter, CutSharplyBefore, CutStandingExcess, ExcessIsBelow, ExcessIsShort, AreOff, NeverFails}
use Rattle.eg_laws.specs.Findings.{FindsBeforeOff, FindsFailure, FindsFromOnset, FindsSharply, TellsFlips}
use Rattle.eg_laws.specs.Showing.{ArePermitted, ShowsRun}
use Rattle.eg_model.specs.Outputs.{running, without_slices, without_level1, without_outputs}
use Rattle.eg_model.proofs.OutputLaws.{length-bare, runs_disregard_level1}
use Rattle.eg_laws.proofs.ShowingLaws.{records_show_runs}
use Rattle.eg_model.proofs.PowerCycleLaws.{records_begin_in_turn}
use Rattle.eg_model.proofs.RecordLaws.{records_react, records_react_at_once, records_cut_from_onset, records_test_unpowered, records_pass_tests}
use Rattle.eg_model.proofs.RecordLaws.{records_cut_standing_excess, records_have_short_excess, records_cut_sharply, records_cut_sharply_before}
use Rattle.eg_laws.proofs.FindingRecords.{records_find_before_off, records_find_from_onset, records_find_failures, records_tell_flips, records_find_sharply}
use Rattle.eg_laws.specs.Stretches.{RowsEndStretches, RowsEndStretchesAtOnce}
use Rattle.eg_laws.specs.Bursts.{RowsAreSparse}
use Rattle.eg_laws.specs.Availability.{AvailableIfSpaced}
use Rattle.eg_laws.specs.MissedTicks.{CutForGood, MissesAreCut}
use Rattle.eg_laws.proofs.StretchRows.{records_end_stretches, records_end_stretches_at_once, records_are_sparse}
use Rattle.eg_laws.proofs.AvailabilityRecords.{records_stay_available}
use Rattle.eg_laws.proofs.MissedTickRecords.{records_cut_misses, records_cut_for_good, records_open_on_misses}
use Rattle.eg_laws.proofs.MissedStretchLaws.{records_end_missed_stretches}
use Rattle.eg_stream.specs.Coupled.{CoupledUnit, AreTaken, entry_by, entries_by, coupled_moments, coupled_rows}
use Rattle.eg_stream.specs.Headline.{ShowsAnswers, SharpHeadline, OpensAfterMisses, CoupledHeadline, HasOneLoad, ActsByOutputs, KeepsCoupledHeadline}
use Rattle.eg_stream.proofs.TakenLemmas.{AreLawful, taken-are-lawful, taken-proper_run}
use Rattle.eg_stream.proofs.Spoken.{Spoken, SpokenKeeps, spoken, spoken-keeps, spoken-one_load, as_told, as_told-way, one_load, one_load-way}
use Rattle.eg_stream.proofs.RowLemmas.{rows_show_answers}
use Rattle.eg_stream.proofs.SpokenRuns.{in_time, engine_by, run_by, AreShown, spoken-run, spoken-rows}

-- ---- level 1 acts by its outputs ----

rows-bare : (past : List Moment) → map without_outputs (rows_of (map without_level1 past)) ≡ map without_outputs (rows_of past)
unfolding rows_of row_of without_level1 without_slices without_outputs
rows-bare [] = refl
rows-bare (m ∷ past) = ap₂ (λ n rows. without_outputs (row_of n m) ∷ rows) (length-bare past) (rows-bare past)

-- what comes in by the answers is the same but for the slices
entries-alike : (unit other : CoupledUnit) (answers : List PartnerAnswer) → map without_slices (entries_by unit answers) ≡ map without_slices (entries_by other answers)
unfolding entries_by entry_by without_slices
entries-alike unit other [] = refl
entries-alike unit other (answer ∷ before) = ap (λ es. record { drive = answer.drive; slices = []; shown = answer.told } ∷ es) (entries-alike unit other before)

acts_by_outputs : (unit : CoupledUnit) (answers : List PartnerAnswer) → ActsByOutputs unit answers
unfolding coupled_rows coupled_moments
acts_by_outputs unit answers other same =
    ap (λ s. map without_outputs (rows_of (moments s (entries_by other answers)))) same
    ∙ sym (rows-bare (moments (running other.setting.image unit.setting) (entries_by other answers)))
    ∙ ap (λ past. map without_outputs (rows_of past)) (sym (runs_disregard_level1 unit.setting other.setting.image
    (entries_by unit answers) (entries_by other answers) (entries-alike unit other answers)))
    ∙ rows-bare (moments unit.setting (entries_by unit answers))

-- ---- what is shown ----

shown-as_told : (answers : List PartnerAnswer) → AreShown as_told answers
unfolding as_told
shown-as_told [] = All-nil (λ answer. as_told answer.told ≡ answer.told)
shown-as_told (answer ∷ before) = All-cons (λ a. as_told a.told ≡ a.told) answer before refl (shown-as_told before)

one_load-is : (shown : Shown) → IsOneLoad shown → one_load shown ≡ shown
unfolding one_load
one_load-is shown is = λ i. record shown { load_2 = sym is i }

shown-one_load : (answers : List PartnerAnswer) → HasOneLoad answers → AreShown one_load answers
shown-one_load [] has = All-nil (λ answer. one_load answer.told ≡ answer.told)
shown-one_load (answer ∷ before) has = All-cons (λ a. one_load a.told ≡ a.told) answer before
    (one_load-is answer.told (All-head (λ a. IsOneLoad a.told) answer before has))
    (shown-one_load before (All-tail (λ a. IsOneLoad a.told) answer before has))

-- ---- the laws of records ----

module _ (unit : CoupledUnit) (answers : List PartnerAnswer) (accepted : IsAccepted unit.setting.cal) (valid : IsNoneOrValid unit.setting.fault)
    (lawful : AreLawful unit answers) where
  abbrev s : Setting
  s = unit.setting

  abbrev r : Run
  r = run_by unit (in_time answers [])

  run : IsRun r
  run = spoken-run unit answers accepted lawful

  -- what holds of the rows on the bench holds of those of the coupled run
  module _ (through : Shown → Shown) (shown : AreShown through answers) where
    abbrev b : BenchEngine Spoken
    b = engine_by through (in_time answers [])

    moved : (P : List Row → Type 0) → P (record_rows b r) → P (coupled_rows unit answers)
    moved P known = subst P (spoken-rows unit through accepted answers lawful shown) known

  sharp : HasOneLoad answers → SharpHeadline s (coupled_rows unit answers)
  sharp has = record {
    cuts = λ none. to (EachDriveSpan (CutOneTickAfter s.cal.rules.torque s.cal.rules.kt s.cal.rules.threshold))
        (records_cut_sharply keeps once r run none);
    cuts_before = to (EachDriveSpan (CutSharplyBefore s.fault s.cal.rules.torque s.cal.rules.kt s.cal.rules.threshold))
        (records_cut_sharply_before keeps once r run);
    finds_sharply = to (EachDriveSpan (FindsSharply s.fault s.cal.rules.torque s.cal.rules.kt s.cal.rules.threshold))
        (records_find_sharply keeps once r run);
    stays_available = to (EachDriveSpan (AvailableIfSpaced s)) (records_stay_available keeps once r run valid);
  }
    where
      told : List Shown
      told = map (λ answer. answer.told) (in_time answers [])

      keeps : KeepsBenchLaws (spoken one_load told) SpokenKeeps
      keeps = spoken-keeps one_load one_load-way told

      once : ShowsOneLoad (spoken one_load told)
      once = spoken-one_load told

      to : (P : List Row → Type 0) → P (record_rows (spoken one_load told) r) → P (coupled_rows unit answers)
      to = moved one_load (shown-one_load answers has)

  laws : CoupledHeadline s (coupled_rows unit answers) (HasOneLoad answers)
  laws = record {
    cycles = to (SpansBeginInTurn (test_ticks_of s.cal.times)) (records_begin_in_turn (b as_told shown) r);
    reacts = λ listed. to (EachDriveSpan (ReactWithin (reaction_of s.cal.times) s.cal.rules.torque s.cal.rules.threshold))
        (records_react keeps r run listed);
    at_once = λ listed. to (EachDriveSpan (RowsReactAtOnce s.fault s.cal.rules.torque s.cal.rules.threshold))
        (records_react_at_once keeps r run listed);
    unpowered = to (EachTestSpan AreOff) (records_test_unpowered (b as_told shown) r);
    passes = to (All (NeverFails s.fault)) (records_pass_tests (b as_told shown) r run);
    from_onset = to (EachDriveSpan (CutFromOnset s.fault (reaction_of s.cal.times))) (records_cut_from_onset (b as_told shown) r run valid);
    finds_from_onset = to (EachDriveSpan (FindsFromOnset s.fault (reaction_of s.cal.times)))
        (records_find_from_onset (b as_told shown) r run valid);
    finds_before_off = to (EachDriveSpan (FindsBeforeOff s.fault)) (records_find_before_off (b as_told shown) r);
    finds_failure = to (EachTestSpan FindsFailure) (records_find_failures (b as_told shown) r);
    tells_flips = to (TellsFlips s.fault) (records_tell_flips (b as_told shown) r);
    lapses = λ bound lapse. to (EachDriveSpan (CutStandingExcess s.cal)) (records_cut_standing_excess keeps r run valid bound lapse);
    short = λ bound lapse. to (EachDriveSpan (ExcessIsShort s.cal)) (records_have_short_excess keeps r run valid bound lapse);
    missed = λ bound lapse. to (EachDriveSpan (ExcessIsBelow s.cal.rules.threshold (longest_missed s.cal + 1)))
        (records_end_missed_stretches keeps r run valid lapse bound);
    misses = λ keeping. to (EachDriveSpan (MissesAreCut s)) (records_cut_misses keeps r run valid keeping);
    for_good = λ onset never. to (EachDriveSpan (CutForGood onset (reaction_of s.cal.times)))
        (records_cut_for_good (b as_told shown) r run onset never);
    one_verdict = λ lapse single. to (EachDriveSpan (OpensAfterMisses s)) (λ newer span older parts drives tick from missed. All-weaker
        (λ row. max tick (length older) + reaction_of s.cal.times ≤ row.tick → row.path2 ≡ false)
        (λ row. tick + reaction_of s.cal.times ≤ row.tick → row.path2 ≡ false)
        (λ row opens late. opens (omega (arith, late, from))) span
        (records_open_on_misses (b as_told shown) r run lapse single newer span older parts drives tick from missed));
    stretches = λ listed. to (EachDriveSpan (RowsEndStretches s.cal.rules.threshold (longest_stretch s.cal)))
        (records_end_stretches keeps r run listed);
    stretches_at_once = λ listed. to (EachDriveSpan (RowsEndStretchesAtOnce s.fault s.cal.rules.torque s.cal.rules.threshold (ticks_to_confirm s.cal)))
        (records_end_stretches_at_once keeps r run listed);
    bursts = to (EachDriveSpan (RowsAreSparse s.cal.rules.torque s.cal.rules.threshold)) (records_are_sparse (b as_told shown) r run);
    sharp = sharp;
  }
    where
      shown : AreShown as_told answers
      shown = shown-as_told answers

      keeps : KeepsBenchLaws (b as_told shown) SpokenKeeps
      keeps = spoken-keeps as_told as_told-way (map (λ answer. answer.told) (in_time answers []))

      to : (P : List Row → Type 0) → P (record_rows (b as_told shown) r) → P (coupled_rows unit answers)
      to = moved as_told shown

  -- what the rows show
  shows : ShowsAnswers s answers (coupled_rows unit answers)
  shows = record {
    numbered = to AreRows known.numbered;
    answered = rows_show_answers unit answers;
    permitted = to (ArePermitted s.cal) known.permitted;
    no_torque = to (All (λ row. row.on ≡ false → row.torque ≡ 0)) known.no_torque;
    closed1 = to (All (λ row. (effects s.fault row.tick).conducts PATH_1 true ≡ true → row.path1 ≡ true)) known.closed1;
    closed2 = to (All (λ row. (effects s.fault row.tick).conducts PATH_2 true ≡ true → row.path2 ≡ true)) known.closed2;
    open1 = to (All (λ row. (effects s.fault row.tick).conducts PATH_1 false ≡ false → row.path1 ≡ false)) known.open1;
    open2 = to (All (λ row. (effects s.fault row.tick).conducts PATH_2 false ≡ false → row.path2 ≡ false)) known.open2;
  }
    where
      shown : AreShown as_told answers
      shown = shown-as_told answers

      keeps : KeepsBenchLaws (b as_told shown) SpokenKeeps
      keeps = spoken-keeps as_told as_told-way (map (λ answer. answer.told) (in_time answers []))

      known : ShowsRun (b as_told shown) s r.drive (record_rows (b as_told shown) r)
      known = records_show_runs keeps r run valid

      to : (P : List Row → Type 0) → P (record_rows (b as_told shown) r) → P (coupled_rows unit answers)
      to = moved as_told shown

pub coupled-headline : (unit : CoupledUnit) (lines : List (List ℕ)) (answers : List PartnerAnswer) → IsAccepted unit.setting.cal → IsNoneOrValid unit.setting.fault
    → AreTaken unit lines answers → KeepsCoupledHeadline unit answers
coupled-headline unit lines answers accepted valid taken = record {
  proper = taken-proper_run unit lines answers taken;
  shows = shows unit answers accepted valid (taken-are-lawful unit lines answers taken);
  laws = laws unit answers accepted valid (taken-are-lawful unit lines answers taken);
  by_outputs = acts_by_outputs unit answers;
}
