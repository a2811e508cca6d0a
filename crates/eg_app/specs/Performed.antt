-- How a job ends (F3), by cases on what is to be done. A job that takes no lines ends Done, by a fault of
-- writing, or as memory ran out.
use Rattle.std.specs.Prelude.{ℕ, Bool, true, false}
use Rattle.eg_base.specs.Outside.{ShownSink}
use Rattle.eg_lines.specs.Lines.{ShownLines}
use Rattle.eg_asm.specs.Listings.{source_text, image_text}
use Rattle.eg_tick.specs.Weights.{TickCount}
use Rattle.eg_model.specs.EngineRuns.{rows_of_runs}
use Rattle.eg_outcome.specs.Changes.{Change, Stays}
use Rattle.eg_outcome.specs.Outcomes.{LineEnds, PutsNothing}
use Rattle.eg_outcome.specs.declared.outcome.Outcome.{Outcome}
use Rattle.eg_desk.specs.Ends.{RowsEnd, TellsLimits}
use Rattle.eg_desk.specs.Coverage.{TellsCoverage}
use Rattle.eg_desk.specs.Texts.{bound_text, limits_text, answers_text}
use Rattle.eg_play.specs.Ends.{Plays, Records, Sweeps, Tells}
use Rattle.eg_soak.specs.Soak.{drawn_runs, soak_of}
use Rattle.eg_soak.specs.Texts.{soak_text}
use Rattle.eg_stream.specs.Coupled.{unit_of}
use Rattle.eg_stream.specs.Couplings.{CouplingEnds, coupling}
use Rattle.eg_stream.specs.Recordings.{RecordingEnds, replay_work, signals_work}
use Rattle.eg_app.specs.declared.job.Job.{Job}
use Rattle.eg_app.specs.declared.job.Job.TheVariants as job

-- C93: the drawn runs were played, and their summary was written (on Done all of it)
abbrev pub SoakEnds : (seed runs : ℕ) → Change ShownSink → Change TickCount → Outcome → Type 0
SoakEnds seed runs out ticks o =
    Plays (soak_text (soak_of (drawn_runs runs seed))) (drawn_runs runs seed)
    (rows_of_runs (drawn_runs runs seed)) out ticks o

-- F3
abbrev pub Performs : Job → Change ShownLines → Change ShownSink → Change TickCount → Outcome → Type 0
Performs (job.Check cal rows) lines out ticks o = Stays ticks × RowsEnd cal.rules rows out o
Performs (job.Bound cal) lines out ticks o = Stays ticks × TellsLimits bound_text cal out o
Performs (job.Limits cal) lines out ticks o = Stays ticks × TellsLimits limits_text cal out o
Performs (job.Coverage cal) lines out ticks o = Stays ticks × TellsCoverage cal out o
Performs (job.Run telling cal inputs) lines out ticks o = Tells telling cal inputs out ticks o
Performs (job.Record cal input) lines out ticks o = Records cal input out ticks o
Performs (job.Sweep cal input step) lines out ticks o = Sweeps cal step input out ticks o
Performs (job.Replay cal) lines out ticks o = Stays ticks × RecordingEnds (replay_work cal) lines out o
Performs (job.Signals cal) lines out ticks o = Stays ticks × RecordingEnds (signals_work cal) lines out o
Performs (job.Couple cal input) lines out ticks o =
    CouplingEnds (unit_of cal input) (coupling lines out ticks) o
Performs (job.Soak seed runs) lines out ticks o = SoakEnds seed runs out ticks o
Performs (job.Answers questions) lines out ticks o = Stays ticks × LineEnds (answers_text questions) out o
Performs (job.Asm words) lines out ticks o = Stays ticks × LineEnds (image_text words) out o
Performs (job.Dis words) lines out ticks o = Stays ticks × LineEnds (source_text words) out o

abbrev pub takes_lines : Job → Bool
takes_lines (job.Replay cal) = true
takes_lines (job.Signals cal) = true
takes_lines (job.Couple cal input) = true
takes_lines _ = false

-- F5: with this outcome `replay` put nothing; what another job put stays
abbrev pub PutsNothingBy : Job → Outcome → Type 0
PutsNothingBy (job.Replay cal) o = PutsNothing o
PutsNothingBy _ o = ⊥
