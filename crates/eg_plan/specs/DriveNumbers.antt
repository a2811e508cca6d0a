-- A drive as one number, by which equal drives are found.
use Rattle.std.specs.Prelude.{ℕ, ◌+◌, ◌*◌, ◌%◌, ◌^◌, if◌then◌else◌, bit_xor}
use Rattle.std.specs.Int.{w64, rotate_left}
use Rattle.eg_num.specs.Drive.{DriveRow}

-- A number and the next one, made one. The result is no sum, so that a drive made of a pattern and a drive
-- made of its opposite have different numbers.
unfoldable pub mixed : ℕ → ℕ → ℕ
mixed number next = bit_xor (rotate_left w64 number 26) next * 6364136223846793005 % 2 ^ 64

unfoldable pub row_number : DriveRow → ℕ
row_number row = ((row.pedal * 65536 + row.speed) * 65536 + row.raise) * 4
    + 2 * (if row.reset then 1 else 0) + (if row.brake then 1 else 0)
