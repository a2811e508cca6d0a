use Rattle.std.proofs.Common.{◌≡◌, None}
use Rattle.eg_record.specs.Rows.{first_given}
use Rattle.eg_record.specs.Detection.{detected_at}
use Rattle.eg_record.proofs.RowsLemmas.{so_far}
use Rattle.eg_record.proofs.detection.first_detection.Given as goal

-- at the rows so far nothing is found
abbrev pub invariant-loop-row : goal.invariant-loop-row
invariant-loop-row l = first_given detected_at (so_far l.rows l.row-index) ≡ None
