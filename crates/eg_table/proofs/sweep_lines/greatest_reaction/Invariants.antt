use Rattle.std.proofs.Common.{◌≡◌, take}
use Rattle.std.specs.List.{filter_map}
use Rattle.eg_table.specs.Sweep.{greatest_number}
use Rattle.eg_table.proofs.sweep_lines.greatest_reaction.Given as goal

-- the greatest of the rows so far
abbrev pub invariant-loop-row : goal.invariant-loop-row
invariant-loop-row l = l.most ≡ greatest_number (filter_map (λ row. row.reaction) (take l.row-index l.rows))
