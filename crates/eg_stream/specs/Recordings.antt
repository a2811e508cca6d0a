-- Lines of a recording come one by one (F13), and the first that isn't accepted is refused (F14). What was
-- recorded stands newest first.
use Rattle.std.specs.Prelude.{ℕ, List, [], ◌∷◌, Option, Some, None, Result, Ok, Err}
use Rattle.eg_lines.specs.Lines.{ShownLines}
use Rattle.eg_base.specs.Outside.{ShownSink}
use Rattle.eg_input.specs.declared.fault.TraceFault.TheVariants as fault
use Rattle.eg_values.specs.Calibration.{CalibrationParts}
use Rattle.eg_outcome.specs.Changes.{Change}
use Rattle.eg_outcome.specs.Lines.{Line}
use Rattle.eg_outcome.specs.declared.outcome.Outcome.{Outcome}
use Rattle.eg_outcome.specs.declared.outcome.Refusal.{Refusal}
use Rattle.eg_outcome.specs.declared.outcome.Refusal.TheVariants as refusal
use Rattle.eg_input.specs.declared.columns.Columns.{Columns}
use Rattle.eg_input.specs.declared.recorded.Recorded.{Recorded}
use Rattle.eg_input.specs.Recording.{columns_of, recorded_of}
use Rattle.eg_replay.specs.Findings.{findings_of}
use Rattle.eg_replay.specs.Texts.{signals_text, replay_text}
use Rattle.eg_replay.specs.Replay.{replayed, told_of}
use Rattle.eg_stream.specs.Streams.{LineWork, StreamEnds, HoldsWhole}

-- ---- the lines ----

-- what the lines of a recording say so far
pub record Measured : Type 0 where
  pub columns : Columns
  pub recorded : List Recorded

-- F14, Header and Row
abbrev pub headed : Option Columns → Result (Option Measured) Refusal
headed None = Err (refusal.Check fault.Header)
headed (Some columns) = Ok (Some (record { columns = columns; recorded = [] }))

abbrev pub measured_on : (number : ℕ) → Measured → Option Recorded → Result (Option Measured) Refusal
measured_on number m None = Err (refusal.Check (fault.Row number))
measured_on number m (Some r) = Ok (Some (record { columns = m.columns; recorded = r ∷ m.recorded }))

-- F14: the first line is the header
abbrev pub recording_step : (number : ℕ) → Option Measured → Line → Result (Option Measured) Refusal
recording_step number None line = headed (columns_of line)
recording_step number (Some m) line = measured_on number m (recorded_of m.columns line)

-- F14, Empty and Header, once no line is left
abbrev pub of_ticks : (text : List Recorded → List ℕ) → List Recorded → Result (List ℕ) Refusal
of_ticks text [] = Err (refusal.Check fault.Empty)
of_ticks text (r ∷ before) = Ok (text (r ∷ before))

abbrev pub in_all : (text : List Recorded → List ℕ) → Option Measured → Result (List ℕ) Refusal
in_all text None = Err (refusal.Check fault.Header)
in_all text (Some m) = of_ticks text m.recorded

-- a command that reads a recording, by what it writes so far and in all
abbrev pub recording_work :
    (so_far : Option Measured → List ℕ) → (text : List Recorded → List ℕ) → LineWork (Option Measured)
recording_work so_far text =
    record { start = None; step = recording_step; so_far = so_far; whole = in_all text }

-- ---- the commands ----

-- F33, in all and so far
abbrev pub signals_in : CalibrationParts → List Recorded → List ℕ
signals_in cal recorded = signals_text (told_of cal (replayed cal recorded))

abbrev pub signals_so_far : CalibrationParts → Option Measured → List ℕ
signals_so_far cal None = []
signals_so_far cal (Some m) = signals_in cal m.recorded

-- F32
abbrev pub replay_in : CalibrationParts → List Recorded → List ℕ
replay_in cal recorded =
    replay_text cal.rules.pair cal.rules.torque (findings_of (told_of cal (replayed cal recorded)))

-- `signals` writes at each line (F33), `replay` behind the last (F32)
abbrev pub signals_work : CalibrationParts → LineWork (Option Measured)
signals_work cal = recording_work (signals_so_far cal) (signals_in cal)

abbrev pub replay_work : CalibrationParts → LineWork (Option Measured)
replay_work cal = recording_work (λ state. []) (replay_in cal)

abbrev pub RecordingEnds :
    LineWork (Option Measured) → Change ShownLines → Change ShownSink → Outcome → Type 0
RecordingEnds work lines out o = (state : Option Measured) × StreamEnds work state lines out o

-- the lines of a source are a recording of at least one tick, whatever is written of it, and reading them
-- never fails
abbrev pub HoldsRecording : ShownLines → Type 0
HoldsRecording lines = HoldsWhole (recording_work (λ state. []) (λ recorded. [])) lines
