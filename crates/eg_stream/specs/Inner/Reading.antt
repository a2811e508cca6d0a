-- How one line of a recording is read, and what comes of it (F13, F14).
use Rattle.std.specs.Prelude.{◌≡◌, ◌⊎◌, ℕ, ◌+◌, ◌≤◌, Bool, true, false, List, [], ◌∷◌, length, reverse, Option, Some, None, Result, Ok, Err}
use Rattle.eg_base.specs.Outside.{ShownSink}
use Rattle.eg_lines.specs.Lines.{ShownLines}
use Rattle.eg_input.specs.declared.fault.TraceFault.TheVariants as fault
use Rattle.eg_values.specs.Calibration.{CalibrationParts}
use Rattle.eg_outcome.specs.Changes.{Change, change}
use Rattle.eg_outcome.specs.Lines.{Line, Come, IsAtEnd, ReadsWell, NoLineComes}
use Rattle.eg_outcome.specs.declared.outcome.Outcome.{Outcome}
use Rattle.eg_outcome.specs.declared.outcome.Outcome.TheVariants as outcome
use Rattle.eg_outcome.specs.declared.outcome.Refusal.TheVariants as refusal
use Rattle.eg_input.specs.declared.columns.Columns.{Columns}
use Rattle.eg_input.specs.declared.recorded.Recorded.{Recorded}
use Rattle.eg_input.specs.Recording.{columns_of, recorded_of}
use Rattle.eg_replay.specs.Findings.{findings_of}
use Rattle.eg_replay.specs.Replay.{replayed, told_of}
use Rattle.eg_replay.specs.declared.findings.Findings.{Findings}
use Rattle.eg_stream.specs.declared.recording.Recording.{Recording}
use Rattle.eg_stream.specs.Streams.{LeadTo}
use Rattle.eg_stream.specs.Recordings.{Measured, replay_work, RecordingEnds}

-- ---- the first line ----

-- F14, Header
abbrev pub NoHeaderComes : Change ShownLines → Type 0
NoHeaderComes lines = (Come lines [] × IsAtEnd lines)
    ⊎ ((first : Line) × Come lines (first ∷ []) × (columns_of first ≡ None))

-- the first line came, and names the columns; or there is no header (F14); or no line came
abbrev pub RecordingBegins : Change ShownLines → Result Recording Outcome → Type 0
RecordingBegins lines (Ok recording) =
    (first : Line) × Come lines (first ∷ []) × (columns_of first ≡ Some recording.columns) × ReadsWell lines
RecordingBegins lines (Err end) =
    ((end ≡ outcome.Refused (refusal.Check fault.Header)) × NoHeaderComes lines × ReadsWell lines)
    ⊎ NoLineComes lines end

-- The columns that the first line names, or how the call ends. Without a first line the fault is Header too
-- (F14).
abbrev pub columns_or_header : Option Columns → Result Columns Outcome
columns_or_header (Some columns) = Ok columns
columns_or_header None = Err (outcome.Refused (refusal.Check fault.Header))

abbrev pub columns_or_end : (came : Result Bool Outcome) → Line → Result Columns Outcome
columns_or_end (Ok true) first = columns_or_header (columns_of first)
columns_or_end (Ok false) first = columns_or_header None
columns_or_end (Err end) first = Err end

-- ---- a line below it ----

-- the line of this tick came, and writes this; or no line was left; or the line is refused (F14: the line of
-- tick 0 is record 2); or no line came
abbrev pub RecordingGoesOn :
    Columns → (tick : ℕ) → Change ShownLines → Result (Option Recorded) Outcome → Type 0
RecordingGoesOn columns tick lines (Ok (Some r)) =
    (line : Line) × Come lines (line ∷ []) × (recorded_of columns line ≡ Some r) × ReadsWell lines
RecordingGoesOn columns tick lines (Ok None) = Come lines [] × IsAtEnd lines × ReadsWell lines
RecordingGoesOn columns tick lines (Err end) =
    ((end ≡ outcome.Refused (refusal.Check (fault.Row (tick + 2))))
    × (line : Line) × Come lines (line ∷ []) × (recorded_of columns line ≡ None) × ReadsWell lines)
    ⊎ NoLineComes lines end

-- ---- all lines ----

-- All lines came, a header and at least one tick, and these are the findings. Or the call ends as `replay`
-- does, with any output unchanged.
abbrev pub FindingsCome : CalibrationParts → Change ShownLines → Result Findings Outcome → Type 0
FindingsCome cal lines (Ok findings) =
    (taken : List Line) × (m : Measured) × Come lines taken × IsAtEnd lines
    × LeadTo (replay_work cal) (reverse taken) (Some m) × (1 ≤ length m.recorded)
    × (findings ≡ findings_of (told_of cal (replayed cal m.recorded))) × ReadsWell lines
FindingsCome cal lines (Err end) =
    (out : ShownSink) → RecordingEnds (replay_work cal) lines (change out out) end
