use Rattle.std.proofs.Common.{length, ◌-◌, ◌≡◌, ◌≤◌, ◌++◌, List, ℕ}
use Rattle.std.specs.Io.KnownBytes.{Consumes}
use Rattle.eg_base.proofs.file_store.append_from.Given as goal

-- what was appended so far is what the reader gave
abbrev pub invariant-loop-taken : goal.invariant-loop-taken
invariant-loop-taken g l = record {
  within : l.taken ≤ l.most;
  so_far : (bytes : List ℕ) × (l.into.items ≡ l.fn.into.items ++ bytes) × (length bytes ≡ l.taken)
      × Consumes (g.F.Read.remaining l.fn.file) (g.F.Read.remaining l.file) bytes;
}

abbrev pub decreases-loop-taken : goal.decreases-loop-taken
decreases-loop-taken g l = l.most - l.taken
