use Rattle.std.proofs.Common.{◌≡◌}
use Rattle.std.specs.Prelude.{string_bytes}
use Rattle.eg_outcome.proofs.LineLemmas.{HasPut}
use Rattle.eg_outcome.proofs.line.put_lines.Given as goal

-- the lines so far were put whole
abbrev pub invariant-loop-line : goal.invariant-loop-line
invariant-loop-line g l =
    let shows = g.K.Sink.shows in
    record {
      lines : HasPut string_bytes l.lines l.line-index (shows l.fn.out) (shows l.out);
      sure : (shows l.out).sure ≡ (shows l.fn.out).sure;
    }
