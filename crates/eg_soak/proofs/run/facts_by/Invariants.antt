use Rattle.std.proofs.Common.{◌≡◌, true, not}
use Rattle.std.specs.Prelude.{◌==◌}
use Rattle.eg_record.specs.Tallies.{IsTallyOf}
use Rattle.eg_record.specs.Margins.{IsMarginTallyOf}
use Rattle.eg_model.specs.Bench.{Run}
use Rattle.eg_model.specs.Records.{rows_to}
use Rattle.eg_tick.specs.Run.{IsAt}
use Rattle.eg_tick.specs.Margins.{weighed_to}
use Rattle.eg_tick.proofs.RunLemmas.{counted}
use Rattle.eg_soak.proofs.run.facts_by.Given as goal

-- the controller stands for the ticks so far, the tallies for their rows, and they are counted
abbrev pub invariant-loop-tick : goal.invariant-loop-tick
invariant-loop-tick g l =
    let bench = g.E.BenchedEngine.bench in
    let come_to = g.E.BenchedEngine.come_to in
    record {
      ticks : l.controller.kept.ticks ≡ l.tick;
      sure : l.controller.kept.memory.sure ≡ true;
      fed : l.tally.facts.ticks ≡ l.tick;
      threshold : l.tally.threshold ≡ l.rules.threshold;
      weights : l.tally.weights ≡ l.rules.torque;
      made : (r : Run) → r.plan ≡ l.plan → r.drive ≡ l.drive → IsAt bench come_to r 0 l.fn.controller →
          IsAt bench come_to r l.tick l.controller
          × IsTallyOf l.tally (rows_to bench r l.tick)
          × IsMarginTallyOf l.margins (weighed_to (not (g.row.WEIGHED == 0)) bench r l.tick)
          × (l.steps ≡ counted l.fn.steps l.tick (rows_to bench r l.tick));
    }
