use Rattle.std.specs.Prelude.{false}
use Rattle.eg_tick.specs.Entering.{begun}
use Rattle.eg_tick.proofs.span.Span.start.Goals as goal

pub returns-clause-begun : goal.returns-clause-begun
unfolding begun
returns-clause-begun c = λ i. record {
  tests = c.args.tests;
  passed = false;
  local = 0;
  limit = 0;
  monitor = c.restart.ensures.begins i;
  open1 = false;
  open2 = false;
}
