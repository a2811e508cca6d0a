-- How the commands on runs end once their inputs are known (F3): what is written, which ticks are made, and
-- that each run keeps the headline.
use Rattle.std.specs.Prelude.{◌≡◌, ℕ, List, map, All}
use Rattle.eg_base.specs.Outside.{ShownSink}
use Rattle.eg_answer.specs.Times.{reaction_of}
use Rattle.eg_laws.specs.Limits.{KeepsLimits}
use Rattle.eg_values.specs.Calibration.{CalibrationParts}
use Rattle.eg_record.specs.declared.row.Row.{Row}
use Rattle.eg_tick.specs.Weights.{TickCount}
use Rattle.eg_plan.specs.declared.run_input.RunInput.{RunInput}
use Rattle.eg_outcome.specs.Changes.{Change}
use Rattle.eg_outcome.specs.Outcomes.{LineEnds}
use Rattle.eg_outcome.specs.declared.outcome.Outcome.{Outcome}
use Rattle.eg_outcome.specs.declared.outcome.Outcome.TheVariants as outcome
use Rattle.eg_table.specs.SweepLaws.{IsBounded}
use Rattle.eg_play.specs.Headline.{KeepsHeadline}
use Rattle.eg_play.specs.InWords.{TellsInWords}
use Rattle.eg_tick.specs.Counting.{count_with, RanOutAmong}
use Rattle.eg_model.specs.EngineRuns.{EngineRun, rows_in_time}
use Rattle.eg_campaign.specs.Plays.{run_with}
use Rattle.eg_campaign.specs.Groups.{rows_made, rows_of_group, told_with}
use Rattle.eg_campaign.specs.Texts.{record_text}
use Rattle.eg_campaign.specs.Recording.{IsStopped}
use Rattle.eg_outcome.specs.declared.telling.Telling.{Telling}
use Rattle.eg_play.specs.Texts.{runs_text}
use Rattle.eg_play.specs.Sweeping.{runs_over, table_over, swept_text}

-- ---- runs are played ----

-- the ticks of these rows were made and counted, with the weights of the rows; if memory ran out, those of
-- the first rows were
abbrev pub AreTicked : List Row → Change TickCount → Outcome → Type 0
AreTicked rows ticks outcome.Memory = RanOutAmong rows ticks.before ticks.after
AreTicked rows ticks o = ticks.after ≡ count_with ticks.before rows

-- These runs were played and these rows made for them, and this text was written (on Done all of it). The
-- record of each run keeps the headline.
pub record Plays (text : List ℕ) (runs : List EngineRun) (rows : List Row) (out : Change ShownSink)
    (ticks : Change TickCount) (o : Outcome) : Type 0 where
  pub written : LineEnds text out o
  pub ticked : AreTicked rows ticks o
  pub headline : All KeepsHeadline runs

-- ---- `run [--cal NAME] CAMPAIGN`, and `table` and `margins` likewise ----

-- C65, C77, C80: what `table` tells of a run keeps the limits of the calibration
abbrev pub TellsWithinLimits : CalibrationParts → RunInput → Type 0
TellsWithinLimits cal input =
    KeepsLimits (run_with cal input).run.setting (told_with cal input).facts (told_with cal input).reactions

-- The runs of a campaign were played, and told in this way. Whichever way that is, what `table` tells of the
-- runs keeps the limits of the calibration, and what `table` and `margins` tell is what the rows show.
pub record Tells (telling : Telling) (cal : CalibrationParts) (inputs : List RunInput)
    (out : Change ShownSink) (ticks : Change TickCount) (o : Outcome) : Type 0 where
  pub plays : Plays (runs_text telling cal inputs) (map (run_with cal) inputs) (rows_made cal inputs)
      out ticks o
  pub within_limits : All (TellsWithinLimits cal) inputs
  pub in_words : All (TellsInWords cal) inputs

-- ---- `record [--cal NAME] CAMPAIGN RUN` ----

-- C55: on Done all ticks of the record were made and counted, else those up to the line at which it was
-- stopped
abbrev pub AreTickedInTurn :
    CalibrationParts → RunInput → Change ShownSink → Change TickCount → Outcome → Type 0
AreTickedInTurn cal input out ticks outcome.Done =
    ticks.after ≡ count_with ticks.before (rows_in_time (run_with cal input))
AreTickedInTurn cal input out ticks o =
    IsStopped (rows_in_time (run_with cal input)) out.before out.after ticks.before ticks.after

-- A run was played, and its record was written as its ticks were made (C55). The record keeps the headline.
pub record Records (cal : CalibrationParts) (input : RunInput) (out : Change ShownSink)
    (ticks : Change TickCount) (o : Outcome) : Type 0 where
  pub written : LineEnds (record_text cal input) out o
  pub ticked : AreTickedInTurn cal input out ticks o
  pub headline : KeepsHeadline (run_with cal input)

-- ---- `sweep [--cal NAME] CAMPAIGN RUN STEP` ----

-- C91: the runs of a sweep were played as one group (C58), and their table was written. Each record keeps the
-- headline. The greatest reactions, but that of `lapse`, are at most R.
pub record Sweeps (cal : CalibrationParts) (step : ℕ) (input : RunInput) (out : Change ShownSink)
    (ticks : Change TickCount) (o : Outcome) : Type 0 where
  pub plays : Plays (swept_text cal step input) (map (run_with cal) (runs_over step input))
      (rows_of_group cal (runs_over step input)) out ticks o
  pub in_time : IsBounded (reaction_of cal.times) (table_over cal step input)
