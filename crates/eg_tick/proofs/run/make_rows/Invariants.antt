use Rattle.std.proofs.Common.{◌≡◌, ◌≤◌, true, length}
use Rattle.std.specs.Prelude.{reverse, vec_len, vec_capacity}
use Rattle.eg_model.specs.Engines.{gasoline}
use Rattle.eg_model.specs.Bench.{Run}
use Rattle.eg_model.specs.Records.{rows_to}
use Rattle.eg_tick.specs.Benched.{gasoline_of}
use Rattle.eg_tick.specs.Run.{IsAt}
use Rattle.eg_tick.proofs.RunLemmas.{counted}
use Rattle.eg_tick.proofs.run.make_rows.Given as goal

-- the controller stands for the ticks so far, and their rows are told and counted
abbrev pub invariant-loop-tick : goal.invariant-loop-tick
invariant-loop-tick l = record {
  ticks : l.controller.kept.ticks ≡ l.tick;
  sure : l.controller.kept.memory.sure ≡ true;
  room : length l.drive ≤ vec_capacity l.rows;
  len : vec_len l.rows ≡ l.tick;
  at : (r : Run) → r.plan ≡ l.plan → r.drive ≡ l.drive → IsAt gasoline gasoline_of r 0 l.fn.controller → IsAt gasoline gasoline_of r l.tick l.controller;
  rows : (r : Run) → r.plan ≡ l.plan → r.drive ≡ l.drive → IsAt gasoline gasoline_of r 0 l.fn.controller → l.rows.items ≡ reverse (rows_to gasoline r l.tick);
  counts : l.steps ≡ counted l.fn.steps l.tick l.rows.items;
}
