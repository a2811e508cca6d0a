use Rattle.std.proofs.Common.{◌≡◌}
use Rattle.eg_draw.specs.Draws.{after, draws}
use Rattle.eg_draw.proofs.generator.Generator.any_image.Given as goal

abbrev pub invariant-loop : goal.invariant-loop
invariant-loop l = record {
  words : l.words.items ≡ draws l.counter l.fn.self;
  state : l.self ≡ after l.counter l.fn.self;
}
