use Rattle.std.proofs.Common.{refl}
use Rattle.eg_num.specs.Drive.{driven}
use Rattle.eg_tick.specs.Commanding.{commands_next}
use Rattle.eg_stream.specs.Coupled.{entries_by}
use Rattle.eg_stream.proofs.ticking.next_commands.Goals as goal

pub returns : goal.returns
unfolding commands_next
returns c = λ unit answers coupled.
    c.commands.ensures unit.setting (driven 0 0 0) (entries_by unit answers) refl coupled.stands
