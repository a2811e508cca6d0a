use Rattle.eg_turns.proofs.FrameLemmas.{shown-words, shown-mirrors}
use Rattle.eg_replay.proofs.modules.show_readings.Goals as goal

pub returns-clause-words : goal.returns-clause-words
returns-clause-words c = shown-words c.args.memory.now c.show.new.memory c.in-Ok.ensures.outside

pub returns-clause-mirrored : goal.returns-clause-mirrored
returns-clause-mirrored c = shown-mirrors c.args.memory.now c.show.new.memory c.in-Ok.ensures.outside
