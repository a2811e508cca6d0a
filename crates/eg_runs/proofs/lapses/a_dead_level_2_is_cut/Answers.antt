use Rattle.eg_runs.proofs.WorkedLapses.{dead-keeps, dead, dead-answers, reference-reaction}
use Rattle.eg_runs.proofs.lapses.a_dead_level_2_is_cut.Goals as goal

pub returns : goal.returns
returns c = record { keeps = dead-keeps; line = dead; answers = dead-answers; bound = reference-reaction }
