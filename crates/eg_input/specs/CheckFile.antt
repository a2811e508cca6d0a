-- The rows of a check file (F9).
use Rattle.std.specs.Prelude.{ℕ, ◌==◌, ◌≤◌, List, [], ◌∷◌, length, codes, false, Option, Some, None, if◌then◌else◌, Result}
use Rattle.std.specs.Option.{option_zip}
use Rattle.eg_num.specs.Drive.{DriveRow, IsDrive}
use Rattle.eg_input.specs.Records.{Record}
use Rattle.eg_input.specs.Fields.{number_at}
use Rattle.eg_input.specs.DriveTrace.{drive_at}
use Rattle.eg_input.specs.Rows.{file_rows}
use Rattle.eg_input.specs.declared.fault.TraceFault.{TraceFault}

-- a drive row, without reset and brake, and a torque in tenths of Nm
abbrev pub CheckRow : Type 0
CheckRow = DriveRow × ℕ

-- F9
abbrev pub IsCheckRow : CheckRow → Type 0
IsCheckRow row = IsDrive row.0 × (row.1 ≤ 65535)

-- F9
unfoldable pub check_header : Record
check_header = codes "pedal" ∷ codes "speed" ∷ codes "raise" ∷ codes "torque" ∷ []

-- F9
unfoldable pub check_row_of : Record → Option CheckRow
check_row_of fields =
    if length fields == 4
    then option_zip (drive_at fields (Some false) (Some false)) (number_at fields 3 65535)
    else None

-- F9, F11
abbrev pub check_rows : List Record → Result (List CheckRow) TraceFault
check_rows = file_rows (check_header ∷ []) (λ _. check_row_of)
