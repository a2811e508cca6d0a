-- How numbers and names are written (F25, F26).
use Rattle.std.specs.Prelude.{ℕ, ◌+◌, ◌==◌, ℤ, pos, negsuc, if◌then◌else◌, nat_le, Bool, ◌&&◌, List, ◌++◌, length, map, codes}
use Rattle.std.specs.List.{list_all}
use Rattle.std.specs.Str.{byte}
use Rattle.std.specs.Char.{is_ascii_lowercase}
use Rattle.std.specs.Int.Digits.{digits_of}

-- F26, a number
unfoldable pub numeral : ℕ → List ℕ
numeral n = if n == 0 then codes "0" else map (λ digit. byte "0" + digit) (digits_of 10 n)

-- F26, a target that is a number
unfoldable pub integer : ℤ → List ℕ
integer (pos n) = numeral n
integer (negsuc n) = codes "-" ++ numeral (n + 1)

-- F25, the name of a label
unfoldable pub is_name : List ℕ → Bool
is_name name = nat_le 1 (length name) && nat_le (length name) 16 && list_all is_ascii_lowercase name
