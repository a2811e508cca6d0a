use Rattle.std.proofs.Common.{◌≡◌, ◌++◌, replicate}
use Rattle.eg_draw.proofs.traces.append_hundred.Given as goal

abbrev pub invariant-loop : goal.invariant-loop
invariant-loop l = l.rows.items ≡ l.fn.rows.items ++ replicate l.counter l.row
