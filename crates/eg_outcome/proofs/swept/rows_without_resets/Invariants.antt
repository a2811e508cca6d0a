use Rattle.std.proofs.Common.{◌≡◌, map, take}
use Rattle.eg_outcome.specs.Runs.{without_reset}
use Rattle.eg_outcome.proofs.swept.rows_without_resets.Given as goal

-- the rows so far
abbrev pub invariant-loop-row : goal.invariant-loop-row
invariant-loop-row l = record {
  rows : l.rows.items ≡ map without_reset (take l.row-index l.drive);
}
