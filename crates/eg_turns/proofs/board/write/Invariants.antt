use Rattle.std.proofs.Common.{◌≡◌, ◌+◌, take, slice_index}
use Rattle.eg_guard.specs.Memory.{AreWords}
use Rattle.eg_level2.specs.Stores.{after_stores}
use Rattle.eg_turns.specs.Board.{IsWritten, stores_from}
use Rattle.eg_turns.proofs.board.write.Given as goal

-- the values so far stand, and the memory is as sure as it was
abbrev pub invariant-loop-value : goal.invariant-loop-value
invariant-loop-value g l = record {
  at : l.address ≡ l.fn.first + l.value-index;
  written : IsWritten (g.M.Guarded.shows l.fn.memory).words (g.M.Guarded.shows l.memory).words l.fn.first l.fn.values l.value-index;
  made : slice_index (g.M.Guarded.shows l.memory).words
      ≡ after_stores (take l.value-index (stores_from l.fn.first l.fn.values)) (slice_index (g.M.Guarded.shows l.fn.memory).words);
  are_words : AreWords (g.M.Guarded.shows l.memory).words;
  sure : (g.M.Guarded.shows l.memory).sure ≡ (g.M.Guarded.shows l.fn.memory).sure;
}
