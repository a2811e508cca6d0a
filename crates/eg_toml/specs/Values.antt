-- How numbers and tables of a document are read (F19). A number is a TOML integer within its range, and no
-- float or text that looks like one.
use Rattle.std.specs.Prelude.{ℕ, ℤ, pos, negsuc, ◌&&◌, List, Option, Some, None, option_and_then, if◌then◌else◌, nat_le}
use Rattle.toml.specs.Data.{Data, Members, get_member, as_integer, as_table}

-- what f makes of the value, if there is one
infixl 10 ◌>>=◌
abbrev pub ◌>>=◌ : {A B : Type 0} → Option A → (A → Option B) → Option B
o >>= f = option_and_then f o

abbrev pub table_at : List ℕ → Members → Option Members
table_at name ms = get_member name ms >>= as_table

abbrev pub natural_in : ℕ → ℕ → ℤ → Option ℕ
natural_in low high (pos n) = if nat_le low n && nat_le n high then Some n else None
natural_in low high (negsuc n) = None

abbrev pub number_in : ℕ → ℕ → Data → Option ℕ
number_in low high d = as_integer d >>= natural_in low high

abbrev pub number_at : ℕ → ℕ → List ℕ → Members → Option ℕ
number_at low high name ms = get_member name ms >>= number_in low high
