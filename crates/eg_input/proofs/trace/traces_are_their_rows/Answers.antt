use Rattle.std.specs.Prelude.{Ok, Err}
use Rattle.eg_input.specs.declared.fault.TraceFault.TheVariants as fault
use Rattle.eg_input.specs.DriveTrace.{trace_headers, drive_of}
use Rattle.eg_input.proofs.FileLaws.{file-law}
use Rattle.eg_input.proofs.trace.traces_are_their_rows.Goals as goal

pub returns : goal.returns
returns c = record {
  rows = λ file rows. file-law trace_headers drive_of file (Ok rows);
  header = λ file. file-law trace_headers drive_of file (Err fault.Header);
  row = λ file number. file-law trace_headers drive_of file (Err (fault.Row number));
  empty = λ file. file-law trace_headers drive_of file (Err fault.Empty);
  long = λ file. file-law trace_headers drive_of file (Err fault.Long);
  memory = λ file. (file-law trace_headers drive_of file (Err fault.Memory)).0;
}
