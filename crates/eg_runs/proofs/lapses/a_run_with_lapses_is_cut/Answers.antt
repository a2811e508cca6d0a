use Rattle.eg_runs.proofs.WorkedLapses.{lapsing, lapsing-excesses, lapsing-answers, lapsing-stages, reference-bound}
use Rattle.eg_runs.proofs.lapses.a_run_with_lapses_is_cut.Goals as goal

pub returns : goal.returns
returns c = record { line = lapsing; stretch = lapsing-excesses; answers = lapsing-answers; stages = lapsing-stages; bound = reference-bound }
