use Rattle.eg_runs.proofs.WorkedLapses.{slow-accepted, standing-bound, standing-periods, standing-excess, standing-stages}
use Rattle.eg_runs.proofs.lapses.standing_excess_run.Goals as goal

pub returns : goal.returns
returns c = record { accepted = slow-accepted; bound = standing-bound; periods = standing-periods; stands = standing-excess; stages = standing-stages }
