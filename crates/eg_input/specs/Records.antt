-- The records of a text, by the rules of csv (F12).
use Rattle.std.specs.Prelude.{ℕ, List, Bool, Option}
use Rattle.std.specs.Str.{bytes_eq}
use Rattle.std.specs.Cmp.Lexicographic.{pointwise}
use Rattle.csv.specs.Reading.{records, default_config, strip_bom}

-- the fields of a record, each a list of bytes
abbrev pub Record : Type 0
Record = List (List ℕ)

-- F12
unfoldable pub records_of : List ℕ → List Record
records_of text = records default_config (strip_bom text)

unfoldable pub is_same_record : Record → Record → Bool
is_same_record = pointwise bytes_eq

-- how a record is read: the row that it writes, or none
abbrev pub RowRule : Type 0 → Type 0
RowRule X = Record → Option X
