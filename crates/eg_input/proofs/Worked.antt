-- Small traces, from their bytes.
use Rattle.std.proofs.Common.{◌≡◌, refl, ℕ, List, [], ◌∷◌, true, Ok, Err}
use Rattle.std.specs.Prelude.{codes, Result}
use Rattle.csv.specs.Machine.{next_record}
use Rattle.csv.specs.Reading.{records_from, strip_bom}
use Rattle.csv.specs.Records.{field_at}
use Rattle.eg_num.specs.Drive.{DriveRow, driven}
use Rattle.eg_input.specs.Records.{records_of, is_same_record}
use Rattle.eg_input.specs.Rows.{is_header, file_rows, rows_below, rows_unless}
use Rattle.eg_input.specs.Fields.{decimal_value, number_of, number_at, truth_of, truth_at}
use Rattle.eg_input.specs.DriveTrace.{trace_headers, drive_from, drive_at, drive_of, drive_rows}
use Rattle.eg_input.specs.declared.fault.TraceFault.{TraceFault}
use Rattle.eg_input.specs.declared.fault.TraceFault.TheVariants as fault

-- every definition of reading a trace
unfoldable reading : ℕ
unfolding next_record records_from strip_bom field_at records_of is_same_record is_header file_rows rows_below rows_unless decimal_value number_of number_at truth_of truth_at trace_headers drive_from drive_at drive_of
reading = 0

abbrev rows_in : List ℕ → Result (List DriveRow) TraceFault
rows_in text = drive_rows (records_of text)

-- below the shorter header no power cycle begins
shorter : rows_in (codes "pedal,speed,raise\n9,080,7\n") ≡ Ok (driven 9 80 7 ∷ [])
unfolding reading
shorter = refl

-- below the longer one it begins where the fourth field is 1
longer : rows_in (codes "pedal,speed,raise,reset\n9,080,7,1\n1,2,3,0\n") ≡ Ok (record (driven 9 80 7) { reset = true } ∷ driven 1 2 3 ∷ [])
unfolding reading
longer = refl

-- below the longest one the driver brakes where the fifth field is 1
longest : rows_in (codes "pedal,speed,raise,reset,brake\n9,080,7,0,1\n1,2,3,1,0\n")
    ≡ Ok (record (driven 9 80 7) { brake = true } ∷ record (driven 1 2 3) { reset = true } ∷ [])
unfolding reading
longest = refl

-- a reset is one digit, 0 or 1
two : rows_in (codes "pedal,speed,raise,reset\n1,2,3,0\n9,80,7,2\n") ≡ Err (fault.Row 3)
unfolding reading
two = refl

two_digits : rows_in (codes "pedal,speed,raise,reset\n9,80,7,01\n") ≡ Err (fault.Row 2)
unfolding reading
two_digits = refl

-- so is a brake
brake_of_two : rows_in (codes "pedal,speed,raise,reset,brake\n1,2,3,0,1\n9,80,7,0,2\n") ≡ Err (fault.Row 3)
unfolding reading
brake_of_two = refl

-- a record has as many fields as the header
too_few : rows_in (codes "pedal,speed,raise,reset\n9,80,7\n") ≡ Err (fault.Row 2)
unfolding reading
too_few = refl

no_brake : rows_in (codes "pedal,speed,raise,reset,brake\n9,80,7,0\n") ≡ Err (fault.Row 2)
unfolding reading
no_brake = refl

too_many : rows_in (codes "pedal,speed,raise\n9,80,7,1\n") ≡ Err (fault.Row 2)
unfolding reading
too_many = refl

brake_too_many : rows_in (codes "pedal,speed,raise,reset\n9,80,7,0,1\n") ≡ Err (fault.Row 2)
unfolding reading
brake_too_many = refl

-- a comma more, the header of a check file, and one with brake in the place of reset
no_header : rows_in (codes "pedal,speed,raise,reset,\n9,80,7,1\n") ≡ Err fault.Header
unfolding reading
no_header = refl

other_header : rows_in (codes "pedal,speed,raise,torque\n9,80,7,1\n") ≡ Err fault.Header
unfolding reading
other_header = refl

brake_alone : rows_in (codes "pedal,speed,raise,brake\n9,80,7,1\n") ≡ Err fault.Header
unfolding reading
brake_alone = refl
