use Rattle.eg_runs.proofs.WorkedDiesel.{diesel_that_loses_a_load_track-is}
use Rattle.eg_runs.proofs.diesel.diesel_that_loses_a_load_track.Goals as goal

pub returns : goal.returns
returns c = diesel_that_loses_a_load_track-is
