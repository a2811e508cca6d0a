use Rattle.std.proofs.Common.{◌≡◌, length}
use Rattle.eg_outcome.proofs.LineLemmas.{HasPutFront}
use Rattle.eg_outcome.proofs.line.put_text.Given as goal

-- what stands before the rest was put
abbrev pub invariant-loop-rest : goal.invariant-loop-rest
invariant-loop-rest g l =
    let shows = g.K.Sink.shows in
    record {
      put : HasPutFront l.fn.text l.rest (shows l.fn.out) (shows l.out);
      sure : (shows l.out).sure ≡ (shows l.fn.out).sure;
    }

abbrev pub decreases-loop-rest : goal.decreases-loop-rest
decreases-loop-rest g l = length l.rest
