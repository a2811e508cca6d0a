use Rattle.std.proofs.Common.{◌∙◌}
use Rattle.eg_table.proofs.ActingLemmas.{acts_begun, acts_late}
use Rattle.eg_table.proofs.acting.acts_within.Goals as goal

pub returns-then-fault-ticks : goal.returns-then-fault-ticks
returns-then-fault-ticks c =
    c.has_effect_within.ensures ∙ acts_begun c.args.fault.now c.args.ticks c.if-fault-ticks.true

pub returns-else-fault-ticks : goal.returns-else-fault-ticks
returns-else-fault-ticks c = acts_late c.args.fault.now c.args.ticks c.if-fault-ticks.false
