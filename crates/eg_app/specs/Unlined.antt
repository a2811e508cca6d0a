-- A call to which no lines come.
use Rattle.std.specs.Prelude.{true, [], Option, Some}
use Rattle.eg_base.specs.Outside.{ShownStore, ShownSink}
use Rattle.eg_lines.specs.Lines.{ShownLines}
use Rattle.eg_tick.specs.Weights.{TickCount}
use Rattle.eg_outcome.specs.Changes.{Change, change}
use Rattle.eg_outcome.specs.declared.outcome.Outcome.{Outcome}
use Rattle.eg_app.specs.Ends.{Ends, call}
use Rattle.eg_desk.specs.Words.{Command}

-- what a sure source without lines shows
abbrev pub no_lines : ShownLines
no_lines = record { lines = Some []; faults = 0; sure = true }

-- the command ends so over a source without lines, whatever the source shows afterwards
abbrev pub EndsWithoutLines : Option Command → (nothing : Type 0) → Change ShownStore → Change ShownSink
    → Change TickCount → Outcome → Type 0
EndsWithoutLines command nothing store out ticks o =
    (left : ShownLines) × Ends command nothing (call store (change no_lines left) out ticks) o
