use Rattle.std.proofs.Common.{◌≡◌, ◌≤◌, take, map}
use Rattle.std.specs.List.{concat}
use Rattle.eg_base.specs.Outside.{Appends}
use Rattle.eg_outcome.proofs.note.put_pieces.Given as goal

-- the pieces so far were put whole
abbrev pub invariant-loop-piece : goal.invariant-loop-piece
invariant-loop-piece g l =
    let shows = g.N.Sink.shows in
    record {
      put : Appends (shows l.fn.notes) (shows l.notes) (concat (map (λ piece. piece.now) (take l.piece-index l.pieces)));
      count : (shows l.fn.notes).faults ≤ (shows l.notes).faults;
      sure : (shows l.notes).sure ≡ (shows l.fn.notes).sure;
    }
