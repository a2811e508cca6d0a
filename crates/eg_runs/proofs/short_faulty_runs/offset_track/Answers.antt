use Rattle.eg_runs.proofs.WorkedShortFaults.{offset-pedal}
use Rattle.eg_runs.proofs.short_faulty_runs.offset_track.Goals as goal

pub returns : goal.returns
returns c = offset-pedal
