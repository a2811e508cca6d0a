-- The rows of a drive trace (F9).
use Rattle.std.specs.Prelude.{ℕ, ◌==◌, List, [], ◌∷◌, length, codes, Bool, Option, Some, None, if◌then◌else◌, Result}
use Rattle.eg_num.specs.Drive.{DriveRow}
use Rattle.eg_input.specs.Records.{Record}
use Rattle.eg_input.specs.Fields.{number_at, truth_at}
use Rattle.eg_input.specs.Rows.{file_rows}
use Rattle.eg_input.specs.declared.fault.TraceFault.{TraceFault}

-- F9
unfoldable pub trace_headers : List Record
trace_headers =
    (codes "pedal" ∷ codes "speed" ∷ codes "raise" ∷ [])
    ∷ (codes "pedal" ∷ codes "speed" ∷ codes "raise" ∷ codes "reset" ∷ [])
    ∷ (codes "pedal" ∷ codes "speed" ∷ codes "raise" ∷ codes "reset" ∷ codes "brake" ∷ [])
    ∷ []

-- none, if one of the five is missing
unfoldable pub drive_from : Option ℕ → Option ℕ → Option ℕ → Option Bool → Option Bool → Option DriveRow
drive_from (Some pedal) (Some speed) (Some raise) (Some reset) (Some brake) =
    Some (record { pedal = pedal; speed = speed; raise = raise; reset = reset; brake = brake })
drive_from _ _ _ _ _ = None

unfoldable pub drive_at : Record → Option Bool → Option Bool → Option DriveRow
drive_at fields reset brake =
    drive_from (number_at fields 0 1000) (number_at fields 1 8000) (number_at fields 2 10000) reset brake

-- F9, below a header of `width` fields
unfoldable pub drive_of : ℕ → Record → Option DriveRow
drive_of width fields =
    if length fields == width then drive_at fields (truth_at fields 3) (truth_at fields 4) else None

-- F9, F11
abbrev pub drive_rows : List Record → Result (List DriveRow) TraceFault
drive_rows = file_rows trace_headers drive_of
