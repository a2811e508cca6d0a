use Rattle.std.proofs.Common.{◌≡◌, ◌≤◌, map, None}
use Rattle.eg_num.specs.Counting.{StandsFor}
use Rattle.eg_record.specs.Excess.{true_excess, first_confirmed}
use Rattle.eg_record.specs.Spans.{this_span}
use Rattle.eg_record.proofs.RowsLemmas.{so_far}
use Rattle.eg_record.proofs.detection.first_confirmed.Given as goal

-- the counter stands for the span that the rows so far end with, and none of them confirmed the excess
abbrev pub invariant-loop-row : goal.invariant-loop-row
invariant-loop-row l =
    let rows = so_far l.rows l.row-index in
    record {
      within : l.counter.value ≤ l.weights.limit;
      stands : StandsFor l.weights l.counter.value (map (true_excess l.threshold) (this_span rows));
      unconfirmed : first_confirmed l.weights l.threshold rows ≡ None;
    }
