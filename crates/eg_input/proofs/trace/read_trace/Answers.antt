use Rattle.eg_num.specs.Drive.{IsDrive}
use Rattle.eg_input.specs.DriveTrace.{trace_headers, drive_of}
use Rattle.eg_input.proofs.FieldLemmas.{drive_of-limits}
use Rattle.eg_input.proofs.FileLaws.{read-All, read-some}
use Rattle.eg_input.proofs.trace.read_trace.Goals as goal

pub returns-clause-limits : goal.returns-clause-limits
returns-clause-limits c = read-All trace_headers drive_of IsDrive drive_of-limits _ _ c.read_rows.ensures

pub returns-clause-some : goal.returns-clause-some
returns-clause-some c = read-some trace_headers drive_of _ _ c.read_rows.ensures
