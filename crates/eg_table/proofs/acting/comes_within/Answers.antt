use Rattle.std.proofs.Common.{◌∙◌, ap, arith}
use Rattle.std.specs.Prelude.{nat_lt}
use Rattle.eg_table.proofs.ActingLemmas.{comes_once, comes_again, comes_never}
use Rattle.eg_table.proofs.acting.comes_within.Goals as goal

pub returns-then-every-eq0 : goal.returns-then-every-eq0
returns-then-every-eq0 c =
    comes_once c.args.every c.args.ticks c.args.tick (grind arith) c.if-every-eq0.true

pub returns-else-every-eq0 : goal.returns-else-every-eq0
returns-else-every-eq0 c =
    comes_again c.args.every c.args.ticks c.args.tick (grind arith) c.if-every-eq0.false

pub returns-else-from-ticks : goal.returns-else-from-ticks
returns-else-from-ticks c =
    ap (λ n. nat_lt n c.args.ticks) c.from.ensures ∙ comes_never c.args.every c.args.ticks c.args.tick (grind arith)
