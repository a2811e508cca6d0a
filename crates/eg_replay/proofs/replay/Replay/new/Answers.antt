use Rattle.eg_replay.proofs.RunLemmas.{starts}
use Rattle.eg_replay.proofs.replay.Replay.new.Goals as goal

pub returns-clause-stands : goal.returns-clause-stands
returns-clause-stands c = starts c.copy-3.result c.started-memory.ensures.words
