-- How a line of a recording is read (F13). Its line feed is taken off already.
use Rattle.std.specs.Prelude.{ℕ, zero, suc, ◌-◌, List, [], ◌∷◌, ◌++◌, length, drop, take, codes, Option, Some, None, option_map, if◌then◌else◌, false, slice_index}
use Rattle.std.specs.Str.{byte, bytes_eq}
use Rattle.eg_input.specs.Fields.{number_of, first_said, ◌>>=◌}
use Rattle.eg_sensor.specs.Brake.{sound_contacts}
use Rattle.eg_sensor.specs.declared.readings.Readings.{Readings}
use Rattle.eg_input.specs.declared.columns.Columns.{Columns}
use Rattle.eg_input.specs.declared.columns.Columns.TheVariants as columns
use Rattle.eg_input.specs.declared.recorded.Recorded.{Recorded}

-- F13: a line may end with CR
unfoldable pub before_return : List ℕ → List ℕ
before_return line =
    if bytes_eq (drop (length line - 1) line) (codes "\r") then take (length line - 1) line else line

-- F13, without the brake
unfoldable pub header : List ℕ
header = codes "pedal1,pedal2,plate1,plate2,load1,load2,speed1,speed2,raise,check"

-- F13, a first line
unfoldable pub columns_of : List ℕ → Option Columns
columns_of line =
    if bytes_eq (before_return line) header then Some columns.WithoutBrake
    else if bytes_eq (before_return line) (header ++ codes ",brake1,brake2") then Some columns.WithBrake
    else None

-- the number before the first comma of a text, if it is at most `most`, and what stands behind this comma
abbrev pub first_number : (most : ℕ) → List ℕ → Option (ℕ × List ℕ)
first_number most = first_said (byte ",") (number_of most)

-- F13: the numbers that a line of this many fields writes
unfoldable pub numbers_of : ℕ → List ℕ → Option (List ℕ)
numbers_of zero line = None
numbers_of (suc zero) line = do
  number ← number_of 65535 line
  Some (number ∷ [])
numbers_of (suc (suc more)) line = do
  (number, rest) ← first_number 65535 line
  numbers ← numbers_of (suc more) rest
  Some (number ∷ numbers)

unfoldable pub readings_from : List ℕ → Readings
readings_from numbers = record {
  pedal = slice_index numbers 0 ∷ slice_index numbers 1 ∷ [];
  plate = slice_index numbers 2 ∷ slice_index numbers 3 ∷ [];
  load = slice_index numbers 4 ∷ slice_index numbers 5 ∷ [];
  speed = slice_index numbers 6 ∷ slice_index numbers 7 ∷ [];
  raise = slice_index numbers 8;
  raise_check = slice_index numbers 9;
}

-- F13, C84: without columns of the brake, its contacts are those of a sound brake that isn't pressed
unfoldable pub recorded_of : Columns → List ℕ → Option Recorded
recorded_of columns.WithoutBrake line =
    option_map
    (λ numbers. record { readings = readings_from numbers; contacts = sound_contacts false })
    (numbers_of 10 (before_return line))
recorded_of columns.WithBrake line =
    option_map
    (λ numbers. record {
      readings = readings_from numbers;
      contacts = slice_index numbers 10 ∷ slice_index numbers 11 ∷ [];
    })
    (numbers_of 12 (before_return line))
