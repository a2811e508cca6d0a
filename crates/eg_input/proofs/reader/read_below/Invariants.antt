use Rattle.std.proofs.Common.{List}
use Rattle.eg_input.specs.Records.{Record}
use Rattle.eg_input.specs.Inner.Unread.{HasUnread}
use Rattle.eg_input.proofs.Seen.{Seen}
use Rattle.eg_input.proofs.reader.read_below.Given as goal

abbrev pub invariant-loop-count : goal.invariant-loop-count
invariant-loop-count g l =
    (left : List Record) → HasUnread l.fn.reader left → (rest : List Record) × HasUnread l.reader rest × Seen (g.R.FileRow.row_of l.fn.width) left rest l.rows.items l.count
