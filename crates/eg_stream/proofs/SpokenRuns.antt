-- The run on the bench around the engine that shows the answers: for answers that were taken what comes in at its ticks,
-- and so its rows, are those of the coupled run.
use Rattle.std.proofs.Common.{◌≡◌, ◌∙◌, sym, ap, refl, subst, ℕ, suc, ◌+◌, Bool, arith, List, [], ◌∷◌, map, length, All}
use Rattle.std.specs.Prelude.{◌%◌, ◌&&◌, slice_index_or}
use Rattle.std.proofs.lemmas.List.{length-map}
use Rattle.std.proofs.lemmas.List.Elements.{All-head, All-tail, All-cons, All-nil}
use Rattle.eg_num.specs.Drive.{DriveRow, IsDrive}
use Rattle.eg_values.specs.Calibration.{IsAccepted}
use Rattle.eg_plant.specs.Engine.{Shown, KeepsLaws}
use Rattle.eg_fault.specs.Faults.{effects}
use Rattle.eg_input.specs.declared.answered.PartnerAnswer.{PartnerAnswer}
use Rattle.eg_model.specs.History.{Setting, drives, Moment}
use Rattle.eg_model.specs.Paths.{both_conduct}
use Rattle.eg_model.specs.Spans.{kind_at, before_at, next_after, moments}
use Rattle.eg_model.specs.Engines.{BenchEngine}
use Rattle.eg_model.specs.Bench.{Run, no_drive, stepped, engine_after, shown_at, drive_at, slices_at, entry_at, moments_to, entries_to}
use Rattle.eg_model.specs.Rows.{rows_of, record_rows}
use Rattle.eg_model.specs.Records.{IsRun}
use Rattle.eg_model.proofs.SpanLemmas.{length-run_moments}
use Rattle.eg_model.proofs.RecordTicks.{records_are_histories}
use Rattle.eg_tick.specs.Commanding.{commands_after, commanded_at}
use Rattle.eg_stream.specs.Coupled.{CoupledUnit, entry_by, entries_by, coupled_moments, coupled_rows}
use Rattle.eg_stream.proofs.TakenLemmas.{IsLawful, AreLawful}
use Rattle.eg_stream.proofs.Spoken.{said, said-lawful, Spoken, speak, spoken}

-- ---- answers in the order of time ----

-- these answers in the order of time, and then those that come later
unfoldable pub in_time : List PartnerAnswer → List PartnerAnswer → List PartnerAnswer
in_time [] later = later
in_time (answer ∷ before) later = in_time before (answer ∷ later)

abbrev drive_of : PartnerAnswer → DriveRow
drive_of answer = answer.drive

abbrev told_of : PartnerAnswer → Shown
told_of answer = answer.told

length-in_time : (before later : List PartnerAnswer) → length (in_time before later) ≡ length before + length later
unfolding in_time
length-in_time [] later = omega arith
length-in_time (answer ∷ before) later = let rest = length-in_time before (answer ∷ later) in omega (arith, rest)

-- the drive row behind those of the earlier answers
drives-in_time : (before later : List PartnerAnswer) (k : ℕ) (d : DriveRow)
    → slice_index_or (map drive_of (in_time before later)) (length before + k) d ≡ slice_index_or (map drive_of later) k d
unfolding in_time
drives-in_time [] later k d = ap (λ n. slice_index_or (map drive_of later) n d) (let same : 0 + k ≡ k = omega arith in same)
drives-in_time (answer ∷ before) later k d =
    ap (λ n. slice_index_or (map drive_of (in_time before (answer ∷ later))) n d) (let same : suc (length before) + k ≡ length before + suc k = omega arith in same)
    ∙ drives-in_time before (answer ∷ later) (suc k) d

-- the drive row of the answer that comes behind the earlier ones
drive-in_time : (before : List PartnerAnswer) (answer : PartnerAnswer) (later : List PartnerAnswer) (d : DriveRow)
    → slice_index_or (map drive_of (in_time before (answer ∷ later))) (length before) d ≡ answer.drive
drive-in_time before answer later d =
    ap (λ n. slice_index_or (map drive_of (in_time before (answer ∷ later))) n d) (let same : length before ≡ length before + 0 = omega arith in same)
    ∙ drives-in_time before (answer ∷ later) 0 d

are-drives : (unit : CoupledUnit) (before later : List PartnerAnswer) → AreLawful unit before → All IsDrive (map drive_of later)
    → All IsDrive (map drive_of (in_time before later))
unfolding AreLawful in_time
are-drives unit [] later lawful rest = rest
are-drives unit (answer ∷ before) later lawful rest =
    are-drives unit before (answer ∷ later) lawful.1 (All-cons IsDrive answer.drive (map drive_of later) lawful.0.drive rest)

-- ---- the run ----

-- the engine that shows these answers, and their run, for answers in the order of time
abbrev pub engine_by : (Shown → Shown) → List PartnerAnswer → BenchEngine Spoken
engine_by through all = spoken through (map told_of all)

abbrev pub run_by : CoupledUnit → List PartnerAnswer → Run
run_by unit all = record { setting = unit.setting; plan = unit.plan; drive = map drive_of all }

-- what is shown of each of these answers is what was told
abbrev pub AreShown : (Shown → Shown) → List PartnerAnswer → Type 0
AreShown through answers = All (λ answer. through answer.told ≡ answer.told) answers

pub spoken-run : (unit : CoupledUnit) (answers : List PartnerAnswer) → IsAccepted unit.setting.cal → AreLawful unit answers → IsRun (run_by unit (in_time answers []))
spoken-run unit answers accepted lawful = record {
  accepted = accepted;
  drive = are-drives unit answers [] lawful (All-nil IsDrive);
}

pub length-entries_by : (unit : CoupledUnit) (answers : List PartnerAnswer) → length (entries_by unit answers) ≡ length answers
unfolding entries_by
length-entries_by unit [] = refl
length-entries_by unit (answer ∷ before) = ap suc (length-entries_by unit before)

-- After the ticks of these answers what came in is what the coupled run has, and the later ones are to come.
record Speaks (unit : CoupledUnit) (b : BenchEngine Spoken) (r : Run) (before later : List PartnerAnswer) : Type 0 where
  entries : entries_to b r (length before) ≡ entries_by unit before
  to_come : (engine_after b unit.setting (moments_to b r (length before))).to_come ≡ map told_of later

module _ (unit : CoupledUnit) (through : Shown → Shown) (accepted : IsAccepted unit.setting.cal) where
  abbrev s : Setting
  s = unit.setting

  -- one answer more, behind those before it
  module _ (before : List PartnerAnswer) (answer : PartnerAnswer) (later : List PartnerAnswer) (lawful : IsLawful unit before answer)
      (shown : through answer.told ≡ answer.told) where
    abbrev b : BenchEngine Spoken
    b = engine_by through (in_time before (answer ∷ later))

    abbrev r : Run
    r = run_by unit (in_time before (answer ∷ later))

    abbrev t : ℕ
    t = length before

    abbrev past : List Moment
    past = moments_to b r t

    -- whether the stages are on at its tick, as the bench has it
    abbrev on : Bool
    on = drives (kind_at (drive_at r t) past) && both_conduct (effects s.fault t) (before_at (drive_at r t) past)

    drive-is : drive_at r t ≡ answer.drive
    unfolding drive_at
    drive-is = drive-in_time before answer later no_drive

    count-is : t ≡ length (moments s (entries_by unit before))
    count-is = sym (length-run_moments s (entries_by unit before) ∙ length-entries_by unit before)

    module _ (so_far : Speaks unit b r before (answer ∷ later)) where
      past-is : past ≡ moments s (entries_by unit before)
      past-is = records_are_histories b r t ∙ ap (moments s) so_far.entries

      on-is : on ≡ (commanded_at s answer.drive (entries_by unit before)).on
      unfolding commanded_at commands_after
      on-is = λ i. drives (kind_at (drive-is i) (past-is i)) && both_conduct (effects s.fault (count-is i)) (before_at (drive-is i) (past-is i))

      said-is : said s.cal.plant.kt on answer.told ≡ answer.told
      said-is = said-lawful s.cal.plant.kt on answer.told
          (subst (λ kt. KeepsLaws kt answer.told) accepted.together.one_kt lawful.engine)
          (λ off. lawful.no_torque (sym on-is ∙ off))

      shown-is : shown_at b s (effects s.fault t) (drive_at r t) past ≡ answer.told
      unfolding shown_at stepped spoken speak
      shown-is = ap (λ told. through (speak s.cal.plant.kt on told).now) so_far.to_come ∙ ap through said-is ∙ shown

      entry-is : entry_at b r t past ≡ entry_by unit t answer
      unfolding entry_at slices_at entry_by
      entry-is = λ i. record { drive = drive-is i; slices = slice_index_or unit.plan (t % length unit.plan) []; shown = shown-is i }

      next-speaks : Speaks unit b r (answer ∷ before) later
      unfolding entries_to entries_by moments_to engine_after stepped spoken speak
      next-speaks = record {
        entries = λ i. entry-is i ∷ so_far.entries i;
        to_come = ap (λ told. (speak s.cal.plant.kt (next_after s (entry_at b r t past) past).on told).to_come) so_far.to_come;
      }

  speaks : (before later : List PartnerAnswer) → AreLawful unit before → AreShown through before
      → Speaks unit (engine_by through (in_time before later)) (run_by unit (in_time before later)) before later
  unfolding AreLawful in_time entries_to entries_by moments_to engine_after spoken
  speaks [] later lawful shown = record { entries = refl; to_come = refl }
  speaks (answer ∷ before) later lawful shown =
      next-speaks before answer later lawful.0 (All-head (λ a. through a.told ≡ a.told) answer before shown)
      (speaks before (answer ∷ later) lawful.1 (All-tail (λ a. through a.told ≡ a.told) answer before shown))

  -- ---- its rows ----

  pub spoken-rows : (answers : List PartnerAnswer) → AreLawful unit answers → AreShown through answers
      → record_rows (engine_by through (in_time answers [])) (run_by unit (in_time answers [])) ≡ coupled_rows unit answers
  unfolding record_rows coupled_rows coupled_moments
  spoken-rows answers lawful shown =
      ap (λ n. rows_of (moments_to (engine_by through (in_time answers [])) (run_by unit (in_time answers [])) n)) long
      ∙ ap rows_of (records_are_histories (engine_by through (in_time answers [])) (run_by unit (in_time answers [])) (length answers))
      ∙ ap (λ h. rows_of (moments s h)) (speaks answers [] lawful shown).entries
    where
      long : length (map drive_of (in_time answers [])) ≡ length answers
      long = let all = length-in_time answers [] in let same = length-map (in_time answers []) drive_of in omega (arith, all, same)
