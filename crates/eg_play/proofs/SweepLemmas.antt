-- The runs of a sweep: they may be played, and under listed faults they react in time.
use Rattle.std.proofs.Common.{◌≡◌, ◌∙◌, refl, sym, ap, subst, ℕ, ◌*◌, ◌%◌, ◌^◌, ◌≤◌, Bool, true, false, List, All, map, length, Some, arith}
use Rattle.std.specs.Prelude.{◌↔◌, ◌<◌, Result, Err, IsTrue}
use Rattle.std.proofs.Math.Nat.{mul-mod_left}
use Rattle.std.proofs.lemmas.List.{length-map}
use Rattle.std.proofs.lemmas.List.FromFn.{length-map-range_with_len}
use Rattle.std.proofs.lemmas.Simd.{map-map}
use Rattle.std.proofs.lemmas.List.Elements.{All-map, All-weaker}
use Rattle.eg_num.specs.Drive.{DriveRow, IsDrive}
use Rattle.eg_answer.specs.Times.{reaction_of}
use Rattle.eg_fault.specs.declared.class.Fault.{Fault}
use Rattle.eg_fault.specs.declared.class_name.TheConstants.{CLASSES}
use Rattle.eg_fault.specs.Faults.{IsValid, IsListed, IsNoneOrValid}
use Rattle.eg_values.specs.Calibration.{CalibrationParts, IsAccepted}
use Rattle.eg_model.specs.Records.{IsRun}
use Rattle.eg_laws.proofs.KindLaws.{keeps_of}
use Rattle.eg_tick.specs.Facts.{IsWithoutReset, record_facts}
use Rattle.eg_tick.proofs.FactLaws.{reaction_within}
use Rattle.eg_plan.specs.declared.run_input.RunInput.{RunInput}
use Rattle.eg_model.specs.Engines.{bench_of}
use Rattle.eg_model.specs.EngineRuns.{EngineRun}
use Rattle.eg_plan.specs.Playable.{IsPlayable}
use Rattle.eg_campaign.specs.Plays.{run_with}
use Rattle.eg_campaign.specs.Groups.{input_under, inputs_under, rows_of_group, facts_by}
use Rattle.eg_tick.proofs.CountLemmas.{out_before}
use Rattle.eg_table.specs.declared.grid.SweepFault.{SweepFault}
use Rattle.eg_table.specs.declared.grid.SweepFault.TheVariants as fault
use Rattle.eg_table.specs.Grid.{onset_count, onsets, swept_faults}
use Rattle.eg_table.proofs.GridLemmas.{onsets_law}
use Rattle.eg_table.proofs.ListedLemmas.{swept_valid}
use Rattle.eg_table.specs.Sweep.{table_of}
use Rattle.eg_table.specs.SweepLaws.{ReactsIn, IsBounded}
use Rattle.eg_table.proofs.BoundLemmas.{table_bounded}
use Rattle.eg_base.specs.Outside.{ShownSink}
use Rattle.eg_tick.specs.Weights.{TickCount}
use Rattle.eg_outcome.specs.declared.outcome.Outcome.{Outcome}
use Rattle.eg_outcome.specs.declared.outcome.Outcome.TheVariants as outcome
use Rattle.eg_table.specs.SweepTexts.{sweep_text_of}
use Rattle.eg_outcome.specs.Changes.{Change, change}
use Rattle.eg_outcome.specs.Outcomes.{LineEnds}
use Rattle.eg_play.specs.Ends.{AreTicked, Sweeps}
use Rattle.eg_outcome.specs.Runs.{without_reset, without_resets}
use Rattle.eg_play.specs.Sweeping.{faults_over, runs_over, table_over, swept_text}
use Rattle.eg_play.proofs.HeadlineLemmas.{keep_headline}
use Rattle.eg_play.proofs.PlayLemmas.{unwritten}

-- ---- they may be played ----

drives_without : (rows : List DriveRow) → All IsDrive rows → All IsDrive (map without_reset rows)
drives_without rows drives = All-map IsDrive without_reset rows
    (All-weaker IsDrive (λ row. IsDrive (without_reset row)) (λ row is. is) rows drives)

pub playable-without : (input : RunInput) → IsPlayable input → IsPlayable (without_resets input)
playable-without input playable =
    let long = length-map input.drive without_reset in
    record {
      some = subst (λ n. 1 ≤ n) (sym long) playable.some;
      most = subst (λ n. n ≤ 20000) (sym long) playable.most;
      drive = drives_without input.drive playable.drive;
      image = playable.image;
      fault = playable.fault;
    }

pub all-playable : (input : RunInput) (faults : List Fault) → IsPlayable input → All IsValid faults → All IsPlayable (inputs_under input faults)
unfolding IsNoneOrValid
all-playable input faults playable valid = All-map IsPlayable (λ (fault : Fault). input_under (Some fault) input) faults
    (All-weaker IsValid (λ fault. IsPlayable (input_under (Some fault) input))
    (λ fault is. record { some = playable.some; most = playable.most; drive = playable.drive; image = playable.image; fault = is }) faults valid)

-- there are two or more of them: onset 0 is in each grid
pub are_more : (ticks step : ℕ) → 1 ≤ ticks → 1 ≤ step → 2 ≤ CLASSES * onset_count ticks step
unfolding onsets
are_more ticks step some least =
    let none : 0 * step ≡ 0 = omega arith in
    let first = (onsets_law ticks step least 0).1 (omega (arith, some), ap (λ n. n % step) (sym none) ∙ mul-mod_left 0 step) in
    let below : first.0 < length (onsets ticks step) = first.1 in
    let long : length (onsets ticks step) ≡ onset_count ticks step = length-map-range_with_len (λ i. i * step) 0 (onset_count ticks step) in
    omega (arith, below, long)

-- ---- they react in time ----

never_reset : (rows : List DriveRow) → All (λ row. row.reset ≡ false) (map without_reset rows)
never_reset rows = All-map (λ row. row.reset ≡ false) without_reset rows (λ k d below. refl)

-- of each engine
reacts_on : (r : EngineRun) → IsRun r.run → IsWithoutReset r.run.drive → IsListed r.run.setting.fault →
    ReactsIn (reaction_of r.run.setting.cal.times) (record_facts (bench_of r.engine) r.run)
reacts_on r = reaction_within (keeps_of r.engine) r.run

pub reacts : (cal : CalibrationParts) → IsAccepted cal → (input : RunInput) → IsPlayable input → (fault : Fault) → IsListed (Some fault) →
    ReactsIn (reaction_of cal.times) (facts_by cal (input_under (Some fault) (without_resets input)))
reacts cal accepted input playable fault listed =
    reacts_on (run_with cal (input_under (Some fault) (without_resets input))) (record { accepted = accepted; drive = drives_without input.drive playable.drive })
    (never_reset input.drive) listed

pub in_time : (cal : CalibrationParts) → IsAccepted cal → (step : ℕ) → 1 ≤ step → (input : RunInput) → IsPlayable input →
    IsBounded (reaction_of cal.times) (table_over cal step input)
unfolding table_over runs_over faults_over
in_time cal accepted step some input playable =
    let faults = swept_faults (length input.drive) step in
    let under = λ (fault : Fault). input_under (Some fault) (without_resets input) in
    subst (λ facts. IsBounded (reaction_of cal.times) (table_of faults facts)) (sym (map-map (facts_by cal) under faults))
    (table_bounded (length input.drive) step (reaction_of cal.times) (λ fault. facts_by cal (under fault)) playable.most some
    (λ k d below. reacts cal accepted input playable _))

-- ---- how a sweep ends ----

-- the text on the runs of an input under these faults was written, and their ticks were counted
abbrev pub WritesUnder : CalibrationParts → RunInput → List Fault → Change ShownSink → Change TickCount → Outcome → Type 0
WritesUnder cal input faults out ticks o = LineEnds (sweep_text_of (table_of faults (map (facts_by cal) (inputs_under input faults)))) out o
    × AreTicked (rows_of_group cal (inputs_under input faults)) ticks o

pub swept-ends : (cal : CalibrationParts) → IsAccepted cal → (step : ℕ) → 1 ≤ step → (input : RunInput) → IsPlayable input →
    (out : Change ShownSink) (ticks : Change TickCount) (o : Outcome) →
    (plain : RunInput) (faults : List Fault) → plain ≡ without_resets input → faults ≡ swept_faults (length input.drive) step →
    WritesUnder cal plain faults out ticks o → Sweeps cal step input out ticks o
unfolding swept_text table_over runs_over faults_over
swept-ends cal accepted step some input playable out ticks o plain faults is are writes =
    let under = subst (λ (fs : List Fault). WritesUnder cal (without_resets input) fs out ticks o) are
    (subst (λ (x : RunInput). WritesUnder cal x faults out ticks o) is writes) in
    let all = all-playable (without_resets input) (swept_faults (length input.drive) step) (playable-without input playable)
    (swept_valid (length input.drive) step playable.most some) in
    record {
      plays = record { written = under.0; ticked = under.1; headline = keep_headline cal accepted (runs_over step input) all };
      in_time = in_time cal accepted step some input playable;
    }

-- memory ran out before the first tick
pub not-swept : (cal : CalibrationParts) → IsAccepted cal → (step : ℕ) → 1 ≤ step → (input : RunInput) → IsPlayable input →
    (out : ShownSink) (was : TickCount) → was.count < 2 ^ 64 → was.weights < 2 ^ 64 →
    Sweeps cal step input (change out out) (change was was) outcome.Memory
not-swept cal accepted step some input playable out was count weights =
    swept-ends cal accepted step some input playable (change out out) (change was was) outcome.Memory _ _ refl refl
    (unwritten _ out, out_before was _ count weights)

-- a grid that isn't too large isn't told to be
pub never_large : {T : Type 0} (result : Result T SweepFault) (large : Bool) → ((result ≡ Err fault.Grid) ↔ IsTrue large) → large ≡ false →
    result ≡ Err fault.Grid → ⊥
never_large result true grid small told = absurd cc
never_large result false grid small told = absurd (let no = grid.0 told in cc)
