use Rattle.eg_runs.proofs.WorkedRamps.{missed_rise-excesses, missed_rise-uncut, missed_rise-cut}
use Rattle.eg_runs.proofs.lapses.a_miss_cuts_on_the_ramp.Goals as goal

pub returns : goal.returns
returns c = record { excesses = missed_rise-excesses; uncut = missed_rise-uncut; cut = missed_rise-cut }
