use Rattle.std.proofs.Common.{◌≡◌, ◌≢◌, [], ◌∷◌, Some, Ok, Err}
use Rattle.std.specs.Prelude.{slice_get}
use Rattle.eg_input.specs.declared.fault.TraceFault.TheVariants as fault
use Rattle.eg_input.specs.Rows.{IsFileOf, HasNoRowAt, IsTooLong}
use Rattle.eg_input.specs.CheckFile.{check_header, check_row_of}
use Rattle.eg_input.proofs.FileLaws.{file-law, only-any, only-all}
use Rattle.eg_input.proofs.trace.check_files_are_their_rows.Goals as goal

pub returns : goal.returns
returns c =
    let law = file-law (check_header ∷ []) (λ _. check_row_of) in
    record {
      rows = λ file rows. only-any (λ header. IsFileOf header check_row_of file rows) check_header (law file (Ok rows));
      header = λ file. only-all (λ header. slice_get file 0 ≢ Some header) check_header (law file (Err fault.Header));
      row = λ file number. only-any (λ header. HasNoRowAt header check_row_of file number) check_header (law file (Err (fault.Row number)));
      empty = λ file. only-any (λ header. file ≡ header ∷ []) check_header (law file (Err fault.Empty));
      long = λ file. only-any (λ header. IsTooLong header check_row_of file) check_header (law file (Err fault.Long));
      memory = λ file. (law file (Err fault.Memory)).0;
    }
