use Rattle.eg_runs.proofs.WorkedMisses.{gap-excesses, gap-uncut, gap-cut}
use Rattle.eg_runs.proofs.lapses.missed_gap_is_cut.Goals as goal

pub returns : goal.returns
returns c = record { excesses = gap-excesses; uncut = gap-uncut; cut = gap-cut }
