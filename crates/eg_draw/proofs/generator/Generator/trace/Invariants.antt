use Rattle.std.proofs.Common.{◌≡◌, ◌*◌}
use Rattle.eg_draw.specs.Draws.{after}
use Rattle.eg_draw.specs.Runs.{stretches}
use Rattle.eg_draw.proofs.generator.Generator.trace.Given as goal

abbrev pub invariant-loop : goal.invariant-loop
invariant-loop l = record {
  rows : l.rows.items ≡ stretches l.counter l.fn.self;
  state : l.self ≡ after (3 * l.counter) l.fn.self;
}
