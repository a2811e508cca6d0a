use Rattle.std.proofs.Common.{◌≡◌, fold, drop}
use Rattle.eg_plan.specs.DriveNumbers.{mixed}
use Rattle.eg_campaign.proofs.key.number_of_plan.Given as goal

-- the rows that are left make of the number so far what all make
abbrev pub invariant-loop-row : goal.invariant-loop-row
invariant-loop-row l = fold (fold mixed) l.all (drop l.row-index l.rows) ≡ fold (fold mixed) l.number l.rows
