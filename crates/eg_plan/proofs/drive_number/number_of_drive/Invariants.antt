use Rattle.std.proofs.Common.{◌≡◌, fold, drop}
use Rattle.eg_plan.specs.DriveNumbers.{mixed, row_number}
use Rattle.eg_plan.proofs.drive_number.number_of_drive.Given as goal

-- the rows that are left make of the number so far what all make
abbrev pub invariant-loop-row : goal.invariant-loop-row
invariant-loop-row l = fold (λ all row. mixed all (row_number row)) l.all (drop l.row-index l.rows)
    ≡ fold (λ all row. mixed all (row_number row)) l.number l.rows
