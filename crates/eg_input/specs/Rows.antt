-- The rows of a file of records, or its refusal (F9, F11). `file_rows` says how a file is read, whatever its
-- headers and its rows may be. `IsFileOf`, `HasNoRowAt` and `IsTooLong` say in the file's words which files
-- are accepted, and which have which fault.
use Rattle.std.specs.Prelude.{◌≡◌, ◌⊎◌, ℕ, ◌+◌, ◌<◌, ◌≤◌, List, [], ◌∷◌, ◌++◌, length, take, Bool, All, Option, Some, None, IsSome, is_none, if◌then◌else◌, nat_lt, Result, Ok, Err, filter_map}
use Rattle.std.specs.List.{AllZip, list_any, position_from}
use Rattle.std.specs.declared.vec.Vec.{Vec}
use Rattle.std.specs.declared.alloc.Global.{Global}
use Rattle.eg_input.specs.Records.{Record, RowRule, is_same_record}
use Rattle.eg_input.specs.declared.fault.TraceFault.{TraceFault}
use Rattle.eg_input.specs.declared.fault.TraceFault.TheVariants as fault

-- F11, by the number of the first record that writes no row
unfoldable pub rows_unless :
    {X : Type 0} → ℕ → RowRule X → List Record → Option ℕ → Result (List X) TraceFault
rows_unless most row_of below (Some number) = Err (fault.Row number)
rows_unless most row_of below None =
    if nat_lt most (length below) then Err fault.Long
    else if nat_lt 0 (length below) then Ok (filter_map row_of below)
    else Err fault.Empty

-- F11, Row, Long and Empty; `most` records may stand below the header, and the first of them is record 2
unfoldable pub rows_below : {X : Type 0} → ℕ → RowRule X → List Record → Result (List X) TraceFault
rows_below most row_of below =
    rows_unless most row_of below (position_from (λ r. is_none (row_of r)) 2 (take most below))

unfoldable pub is_header : List Record → Record → Bool
is_header headers r = list_any (is_same_record r) headers

-- F9, F11; the number of fields of the header says how the records below it are read
unfoldable pub file_rows : {X : Type 0} → List Record → (ℕ → RowRule X) → List Record →
    Result (List X) TraceFault
file_rows headers row_of [] = Err fault.Header
file_rows headers row_of (first ∷ below) =
    if is_header headers first then rows_below 20000 (row_of (length first)) below else Err fault.Header

-- what was read is what the file gives, unless memory ran out
abbrev pub IsRead : {X : Type 0} → Result (List X) TraceFault → Result (Vec X Global) TraceFault → Type 0
IsRead expected (Ok rows) = expected ≡ Ok rows.items
IsRead expected (Err e) = (e ≡ fault.Memory) ⊎ (expected ≡ Err e)

-- F9
pub record IsFileOf {X : Type 0} (header : Record) (row_of : RowRule X) (file : List Record)
    (rows : List X) : Type 0 where
  pub below : List Record
  pub parts : file ≡ header ∷ below
  pub some : 1 ≤ length below
  pub most : length below ≤ 20000
  pub written : AllZip (λ r row. row_of r ≡ Some row) below rows

-- F11, Row
pub record HasNoRowAt {X : Type 0} (header : Record) (row_of : RowRule X) (file : List Record)
    (number : ℕ) : Type 0 where
  pub good : List Record
  pub bad : Record
  pub rest : List Record
  pub parts : file ≡ header ∷ good ++ bad ∷ rest
  pub before : All (λ r. IsSome (row_of r)) good
  pub here : row_of bad ≡ None
  pub at : number ≡ length good + 2
  pub within : number ≤ 20001

-- F11, Long
pub record IsTooLong {X : Type 0} (header : Record) (row_of : RowRule X) (file : List Record) : Type 0 where
  pub below : List Record
  pub parts : file ≡ header ∷ below
  pub more : 20000 < length below
  pub before : All (λ r. IsSome (row_of r)) (take 20000 below)
