-- Every run that may be played keeps the headline.
use Rattle.std.proofs.Common.{◌≡◌, ◌∙◌, ℕ, List, [], ◌∷◌, All, refl, sym, map}
use Rattle.std.proofs.lemmas.List.{length-map}
use Rattle.std.proofs.lemmas.List.Elements.{All-map, All-weaker}
use Rattle.eg_answer.specs.Times.{reaction_of}
use Rattle.eg_values.specs.Calibration.{CalibrationParts, IsAccepted}
use Rattle.eg_fault.specs.Faults.{IsNoneOrValid}
use Rattle.eg_num.specs.Windows.{WeightParts}
use Rattle.eg_record.specs.declared.row.Row.{Row}
use Rattle.eg_record.specs.Rows.{AreRows}
use Rattle.eg_record.specs.Detection.{first_detection, first_cut, cutting_at, IsFirstDetection}
use Rattle.eg_record.specs.Facts.{facts_of}
use Rattle.eg_record.specs.Reactions.{reactions_of}
use Rattle.eg_record.specs.Excess.{first_confirmed}
use Rattle.eg_record.specs.Stages.{IsFirstOff, first_off}
use Rattle.eg_record.specs.Summaries.{summary_of}
use Rattle.eg_record.proofs.LawLemmas.{detection_law, off_law}
use Rattle.eg_model.specs.Rows.{report_of, record_trap}
use Rattle.eg_model.specs.Records.{IsRun}
use Rattle.eg_laws.proofs.KindLaws.{keeps_of, shows_one_load_of}
use Rattle.eg_model.proofs.RecordLaws.{records_react, records_react_at_once, records_cut_sharply, records_cut_sharply_before, records_cut_from_onset, records_cut_standing_excess, records_have_short_excess, records_test_unpowered, records_pass_tests}
use Rattle.eg_laws.proofs.StretchRows.{records_end_stretches, records_end_stretches_at_once, records_are_sparse}
use Rattle.eg_laws.proofs.AvailabilityRecords.{records_stay_available}
use Rattle.eg_laws.proofs.MissedTickRecords.{records_cut_misses, records_cut_for_good}
use Rattle.eg_laws.proofs.LimitLaws.{records_keep_limits}
use Rattle.eg_laws.proofs.WordLaws.{peak_is_greatest, stretch_is_longest, reaction_is_longest}
use Rattle.eg_laws.proofs.FindingRecords.{records_find_before_off, records_find_failures, records_find_from_onset, records_tell_flips, records_find_sharply}
use Rattle.eg_laws.proofs.FindingReports.{reports_name_what_cuts}
use Rattle.eg_laws.proofs.OutputRecords.{records_act_by_outputs}
use Rattle.eg_model.proofs.PowerCycleLaws.{records_begin_in_turn}
use Rattle.eg_laws.proofs.ShowingLaws.{records_show_runs}
use Rattle.eg_model.proofs.WholeRecord.{are_rows}
use Rattle.eg_tick.specs.Facts.{record_facts}
use Rattle.eg_model.specs.Engines.{bench_of}
use Rattle.eg_model.specs.EngineRuns.{EngineRun, rows_of_run, report_of_run}
use Rattle.eg_plan.specs.Playable.{IsPlayable}
use Rattle.eg_campaign.specs.Plays.{run_with}
use Rattle.eg_plan.specs.declared.run_input.RunInput.{RunInput}
use Rattle.eg_play.specs.Headline.{KeepsHeadline}
use Rattle.eg_play.specs.InWords.{AreShown, TellsInWords}
use Rattle.eg_play.proofs.MarginLaws.{record_margins_are}
use Rattle.eg_base.specs.Outside.{ShownSink}
use Rattle.eg_tick.specs.Weights.{TickCount}
use Rattle.eg_campaign.specs.Groups.{rows_made}
use Rattle.eg_outcome.specs.Changes.{Change}
use Rattle.eg_outcome.specs.Outcomes.{LineEnds}
use Rattle.eg_outcome.specs.declared.outcome.Outcome.{Outcome}
use Rattle.eg_outcome.specs.declared.telling.Telling.{Telling}
use Rattle.eg_play.specs.Texts.{runs_text}
use Rattle.eg_play.specs.Ends.{AreTicked, Tells, TellsWithinLimits}

-- ---- the headline ----

detects : (r : EngineRun) (name : List ℕ) → IsFirstDetection (rows_of_run r) (report_of_run name r).first
unfolding report_of summary_of
detects r name = (detection_law (rows_of_run r) (are_rows (bench_of r.engine) r.run) (first_detection (rows_of_run r))).1 refl

tells_when_off : (r : EngineRun) (name : List ℕ) → IsFirstOff (rows_of_run r) (report_of_run name r).off
unfolding report_of summary_of
tells_when_off r name = (off_law (rows_of_run r) (are_rows (bench_of r.engine) r.run) (first_off (rows_of_run r))).1 refl

tells_trap : (r : EngineRun) (name : List ℕ) → (report_of_run name r).trap ≡ record_trap (bench_of r.engine) r.run
unfolding report_of summary_of
tells_trap r name = refl

tells_when_confirmed : (r : EngineRun) (name : List ℕ) → (report_of_run name r).confirmed ≡
    first_confirmed r.run.setting.cal.rules.torque r.run.setting.cal.rules.threshold (rows_of_run r)
unfolding report_of summary_of
tells_when_confirmed r name = refl

tells_bound : (r : EngineRun) (name : List ℕ) → (report_of_run name r).bound ≡ reaction_of r.run.setting.cal.times
unfolding report_of summary_of
tells_bound r name = refl

tells_name : (r : EngineRun) (name : List ℕ) → (report_of_run name r).name ≡ name
unfolding report_of summary_of
tells_name r name = refl

-- a run by an accepted calibration, over a drive within its limits, without a fault or under a valid one, keeps
-- it
pub headline : (r : EngineRun) → IsRun r.run → IsNoneOrValid r.run.setting.fault → KeepsHeadline r
headline r run valid =
    let keeps = keeps_of r.engine in
    record {
      shows = records_show_runs keeps r.run run valid;
      cycles = records_begin_in_turn (bench_of r.engine) r.run;
      reacts = records_react keeps r.run run;
      at_once = records_react_at_once keeps r.run run;
      unpowered = records_test_unpowered (bench_of r.engine) r.run;
      passes = records_pass_tests (bench_of r.engine) r.run run;
      cuts = records_cut_sharply keeps (shows_one_load_of r.engine) r.run run;
      cuts_before = records_cut_sharply_before keeps (shows_one_load_of r.engine) r.run run;
      from_onset = records_cut_from_onset (bench_of r.engine) r.run run valid;
      finds_before_off = records_find_before_off (bench_of r.engine) r.run;
      finds_failure = records_find_failures (bench_of r.engine) r.run;
      finds_sharply = records_find_sharply keeps (shows_one_load_of r.engine) r.run run;
      finds_from_onset = records_find_from_onset (bench_of r.engine) r.run run valid;
      tells_flips = records_tell_flips (bench_of r.engine) r.run;
      lapses = records_cut_standing_excess keeps r.run run valid;
      short = records_have_short_excess keeps r.run run valid;
      misses = records_cut_misses keeps r.run run valid;
      for_good = records_cut_for_good (bench_of r.engine) r.run run;
      stretches = records_end_stretches keeps r.run run;
      stretches_at_once = records_end_stretches_at_once keeps r.run run;
      bursts = records_are_sparse (bench_of r.engine) r.run run;
      stays_available = records_stay_available keeps (shows_one_load_of r.engine) r.run run valid;
      detects = detects r;
      tells_when_off = tells_when_off r;
      tells_trap = tells_trap r;
      tells_when_confirmed = tells_when_confirmed r;
      tells_bound = tells_bound r;
      tells_name = tells_name r;
      names = λ name. reports_name_what_cuts (bench_of r.engine) r.run name;
      by_outputs = records_act_by_outputs (bench_of r.engine) r.run;
    }

-- the run of a playable input keeps it
pub keeps_headline : (cal : CalibrationParts) → IsAccepted cal → (input : RunInput) → IsPlayable input → KeepsHeadline (run_with cal input)
keeps_headline cal accepted input playable =
    headline (run_with cal input) (record { accepted = accepted; drive = playable.drive }) playable.fault

pub keep_headline : (cal : CalibrationParts) → IsAccepted cal → (inputs : List RunInput) → All IsPlayable inputs →
    All KeepsHeadline (map (run_with cal) inputs)
keep_headline cal accepted inputs playable = All-map KeepsHeadline (run_with cal) inputs
    (All-weaker IsPlayable (λ input. KeepsHeadline (run_with cal input)) (keeps_headline cal accepted) inputs playable)

-- ---- what is told of a run ----

tells_within_limits : (cal : CalibrationParts) → IsAccepted cal → (input : RunInput) → IsPlayable input → TellsWithinLimits cal input
unfolding record_facts
tells_within_limits cal accepted input is = records_keep_limits input.plan.engine (run_with cal input).run
    (record { accepted = accepted; drive = is.drive }) is.fault

-- ---- and in words ----

cutting_rows : (rows : List Row) → AreRows rows → AreRows (map cutting_at rows)
unfolding cutting_at
cutting_rows [] are = tt
cutting_rows (row ∷ before) are = (are.0 ∙ sym (length-map before cutting_at), cutting_rows before are.1)

shown : (w : WeightParts) (t : ℕ) (rows : List Row) → AreRows rows → AreShown w t rows (facts_of w t rows) (reactions_of w t rows)
unfolding facts_of first_cut
shown w t rows are = record {
  first = (detection_law rows are (first_detection rows)).1 refl;
  cut = (detection_law (map cutting_at rows) (cutting_rows rows are) (first_cut rows)).1 refl;
  off = (off_law rows are (first_off rows)).1 refl;
  stretch = stretch_is_longest t rows;
  peak = peak_is_greatest t rows;
  reaction = reaction_is_longest w t rows are;
}

tells_in_words : (cal : CalibrationParts) → IsAccepted cal → (input : RunInput) → TellsInWords cal input
unfolding record_facts
tells_in_words cal accepted input =
    let r = run_with cal input in
    record {
      table = shown cal.rules.torque cal.rules.threshold (rows_of_run r) (are_rows (bench_of r.engine) r.run);
      margins = record_margins_are (bench_of r.engine) r.run accepted;
    }

-- ---- how runs are told ----

pub tells : (telling : Telling) (cal : CalibrationParts) → IsAccepted cal → (inputs : List RunInput) → All IsPlayable inputs →
    (out : Change ShownSink) (ticks : Change TickCount) (o : Outcome) → LineEnds (runs_text telling cal inputs) out o → AreTicked (rows_made cal inputs) ticks o →
    Tells telling cal inputs out ticks o
tells telling cal accepted inputs playable out ticks o written ticked = record {
  plays = record { written = written; ticked = ticked; headline = keep_headline cal accepted inputs playable };
  within_limits = All-weaker IsPlayable (TellsWithinLimits cal) (tells_within_limits cal accepted) inputs playable;
  in_words = All-weaker IsPlayable (TellsInWords cal) (λ input is. tells_in_words cal accepted input) inputs playable;
}
