use Rattle.eg_runs.proofs.WorkedFaults.{pedal_track_reads_1000, pedal_track_reads_1000-permitted}
use Rattle.eg_runs.proofs.faulty_runs.raised_pedal_run.Goals as goal

pub returns-clause-report : goal.returns-clause-report
returns-clause-report c = pedal_track_reads_1000

pub returns-clause-permitted : goal.returns-clause-permitted
returns-clause-permitted c = pedal_track_reads_1000-permitted
