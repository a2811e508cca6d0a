-- How runs that were played end.
use Rattle.std.proofs.Common.{◌≡◌, ◌∙◌, refl, ap, ℕ, List, [], ◌∷◌, ◌++◌, map}
use Rattle.std.specs.List.{concat}
use Rattle.eg_base.specs.Outside.{ShownSink, Appends, AppendsPrefix, Rose}
use Rattle.eg_values.specs.Calibration.{CalibrationParts}
use Rattle.eg_record.specs.declared.row.Row.{Row}
use Rattle.eg_record.specs.Texts.{summary_line, report_end}
use Rattle.eg_record.specs.declared.summary.Summary.{Summary}
use Rattle.eg_tick.specs.Weights.{TickCount}
use Rattle.eg_outcome.specs.Changes.{Change, change}
use Rattle.eg_outcome.specs.Outcomes.{LineEnds}
use Rattle.eg_outcome.specs.declared.outcome.Outcome.{Outcome}
use Rattle.eg_outcome.specs.declared.outcome.Outcome.TheVariants as outcome
use Rattle.eg_base.proofs.AppendLemmas.{Appends-nil}
use Rattle.eg_tick.specs.Counting.{count_with}
use Rattle.eg_model.specs.EngineRuns.{rows_in_time}
use Rattle.eg_campaign.specs.Plays.{run_with, report_with}
use Rattle.eg_campaign.specs.Groups.{told_by}
use Rattle.eg_plan.specs.declared.run_input.RunInput.{RunInput}
use Rattle.eg_campaign.specs.Texts.{text_of, record_text}
use Rattle.eg_campaign.specs.Recording.{IsStopped}
use Rattle.eg_tick.proofs.CountLemmas.{out_at_end}
use Rattle.eg_answer.specs.Times.{reaction_of}
use Rattle.eg_outcome.specs.declared.telling.Columns.{Columns}
use Rattle.eg_play.specs.Texts.{report_text, rows_by, rows_text, weighs}
use Rattle.eg_play.specs.Headline.{KeepsHeadline}
use Rattle.eg_play.specs.Ends.{AreTicked, Records}

-- ---- the texts ----

told_each : (cal : CalibrationParts) (inputs : List RunInput) →
    map summary_line (map (report_with cal) inputs) ≡ map (λ input. summary_line (report_with cal input)) inputs
told_each cal [] = refl
told_each cal (input ∷ inputs) = ap (λ l. summary_line (report_with cal input) ∷ l) (told_each cal inputs)

pub report_is : (cal : CalibrationParts) (inputs : List RunInput) (all : List Summary) → all ≡ map (report_with cal) inputs →
    concat (map summary_line all) ++ report_end all ≡ report_text cal inputs
unfolding report_text
report_is cal inputs all is = ap (λ l. concat (map summary_line l) ++ report_end l) is
    ∙ ap (λ l. concat l ++ report_end (map (report_with cal) inputs)) (told_each cal inputs)

pub rows_are : (columns : Columns) (cal : CalibrationParts) (inputs : List RunInput) →
    rows_by columns (reaction_of cal.times) inputs (map (told_by (weighs columns) cal) inputs) ≡ rows_text columns cal inputs
unfolding rows_text
rows_are columns cal inputs = refl

-- ---- what was put and counted ----

-- all runs were counted, however the call ends
pub ticked : (rows : List Row) (ticks : Change TickCount) (o : Outcome) → ticks.after ≡ count_with ticks.before rows → AreTicked rows ticks o
ticked rows ticks outcome.Memory e = out_at_end ticks.before ticks.after rows e
ticked rows ticks _ e = e

-- memory ran out before anything was put
pub unwritten : (text : List ℕ) (out : ShownSink) → LineEnds text (change out out) outcome.Memory
unwritten text out = (([], text, refl, Appends-nil out), refl)

-- ---- a record ----

-- all of it was put, and all ticks were counted
pub recorded : (cal : CalibrationParts) (input : RunInput) (out : Change ShownSink) (ticks : Change TickCount) → Appends out.before out.after (text_of (rows_in_time (run_with cal input))) →
    out.after.faults ≡ out.before.faults → ticks.after ≡ count_with ticks.before (rows_in_time (run_with cal input)) → KeepsHeadline (run_with cal input) →
    Records cal input out ticks outcome.Done
unfolding record_text
recorded cal input out ticks put same counted headline = record {
  written = (put, same);
  ticked = counted;
  headline = headline;
}

-- it was stopped, so that a front of it was put
stopped_front : (cal : CalibrationParts) (input : RunInput) (out : Change ShownSink) (ticks : Change TickCount) →
    IsStopped (rows_in_time (run_with cal input)) out.before out.after ticks.before ticks.after → AppendsPrefix out.before out.after (record_text cal input)
unfolding record_text
stopped_front cal input out ticks stopped = (stopped.front, stopped.rest, stopped.parts, stopped.appended)

-- by a fault of writing,
pub put_failed : (cal : CalibrationParts) (input : RunInput) (out : Change ShownSink) (ticks : Change TickCount) →
    IsStopped (rows_in_time (run_with cal input)) out.before out.after ticks.before ticks.after → Rose out.before.faults out.after.faults →
    KeepsHeadline (run_with cal input) → Records cal input out ticks outcome.WriteFault
put_failed cal input out ticks stopped rose headline = record {
  written = (stopped_front cal input out ticks stopped, rose);
  ticked = stopped;
  headline = headline;
}

-- or since memory ran out
pub ran_out : (cal : CalibrationParts) (input : RunInput) (out : Change ShownSink) (ticks : Change TickCount) →
    IsStopped (rows_in_time (run_with cal input)) out.before out.after ticks.before ticks.after → out.after.faults ≡ out.before.faults →
    KeepsHeadline (run_with cal input) → Records cal input out ticks outcome.Memory
ran_out cal input out ticks stopped same headline = record {
  written = (stopped_front cal input out ticks stopped, same);
  ticked = stopped;
  headline = headline;
}
