use Rattle.std.proofs.Common.{◌≡◌, None}
use Rattle.eg_record.specs.Rows.{first_given}
use Rattle.eg_record.specs.Stages.{off_at}
use Rattle.eg_record.proofs.RowsLemmas.{so_far}
use Rattle.eg_record.proofs.detection.first_off.Given as goal

-- at each of the rows so far the stages are on, or a test is running
abbrev pub invariant-loop-row : goal.invariant-loop-row
invariant-loop-row l = first_given off_at (so_far l.rows l.row-index) ≡ None
