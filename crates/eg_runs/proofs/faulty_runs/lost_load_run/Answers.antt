use Rattle.eg_runs.proofs.WorkedFaults.{load_track_reads_0, load_track_reads_0-pairs}
use Rattle.eg_runs.proofs.faulty_runs.lost_load_run.Goals as goal

pub returns-clause-report : goal.returns-clause-report
returns-clause-report c = load_track_reads_0

pub returns-clause-pairs : goal.returns-clause-pairs
returns-clause-pairs c = load_track_reads_0-pairs
