use Rattle.std.proofs.Common.{◌≡◌, take, map}
use Rattle.std.specs.Prelude.{string_bytes}
use Rattle.std.specs.List.{concat}
use Rattle.eg_record.specs.Texts.{summary_line}
use Rattle.eg_play.proofs.texts.summary_lines.Given as goal

-- the lines so far
abbrev pub invariant-loop-summary : goal.invariant-loop-summary
invariant-loop-summary l =
    concat (map string_bytes l.lines.items) ≡ concat (map summary_line (take l.summary-index l.summaries))
