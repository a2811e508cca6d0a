-- What is shown of the lines of a reader that is read from the first `next` on.
use Rattle.std.specs.Prelude.{ℕ, false, List, Option, Some, None, option_map, is_some, if◌then◌else◌}
use Rattle.eg_lines.specs.Lines.{ShownLines, lines_in}
use Rattle.eg_lines.specs.Readers.{ReaderState}

-- `bytes` are those that the reader tells, if it tells them. Before the first line is asked for, their lines
-- are shown, and no fault; from then on what is left to the source that was made of the reader, and its
-- faults. Lines are told exactly if the reader told its bytes at the start.
abbrev pub shown_late : (bytes : Option (List ℕ)) → (made : Option ReaderState) → ShownLines
shown_late bytes None = record { lines = option_map lines_in bytes; faults = 0; sure = false }
shown_late bytes (Some made) =
    record { lines = if is_some bytes then made.lines else None; faults = made.faults; sure = false }
