use Rattle.std.proofs.Common.{rules}
use Rattle.eg_level2.specs.Words.{named}
use Rattle.eg_turns.specs.Midway.{signals_in}
use Rattle.eg_turns.proofs.reading.signals.Goals as goal

pub returns : goal.returns
unfolding signals_in named
returns g c = search rules
