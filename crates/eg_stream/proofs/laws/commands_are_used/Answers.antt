use Rattle.eg_stream.proofs.UsedLemmas.{commands_are_used}
use Rattle.eg_stream.proofs.laws.commands_are_used.Goals as goal

pub returns : goal.returns
returns c = commands_are_used
