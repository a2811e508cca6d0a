-- A plain file: the line of the header, and below it lines of numbers, each ended by one line feed.
use Rattle.std.specs.Prelude.{◌≡◌, ℕ, List, ◌∷◌, ◌++◌, length, Bool, true, Option, Some}
use Rattle.std.specs.Str.{byte}
use Rattle.csv.specs.declared.parser.State.TheVariants as state
use Rattle.eg_input.specs.Records.{Record, RowRule, records_of}
use Rattle.eg_input.specs.Inner.Unread.{records_after}
use Rattle.eg_input.specs.Fields.{number_of, truth_of}
use Rattle.eg_input.specs.Rows.{is_header}

-- the records of the bytes behind a line's end
abbrev pub records_below : List ℕ → List Record
records_below text = records_after state.StartRecord text

-- the text begins with a field of this value, goes on with this byte, and then with the rest
pub record BeginsWithField {X : Type 0} (value_of : List ℕ → Option X) (ending : ℕ) (text : List ℕ)
    (value : X) (rest : List ℕ) : Type 0 where
  pub field : List ℕ
  pub parts : text ≡ field ++ ending ∷ rest
  pub written : value_of field ≡ Some value

abbrev pub BeginsWithNumber : ℕ → ℕ → List ℕ → ℕ → List ℕ → Type 0
BeginsWithNumber most = BeginsWithField (number_of most)

abbrev pub BeginsWithTruth : ℕ → List ℕ → Bool → List ℕ → Type 0
BeginsWithTruth = BeginsWithField truth_of

-- the first of the text's records writes this row, and the others are those of the rest
pub record BeginsWithRow {X : Type 0} (row_of : RowRule X) (text : List ℕ) (row : X)
    (rest : List ℕ) : Type 0 where
  pub fields : Record
  pub parts : records_below text ≡ fields ∷ records_below rest
  pub written : row_of fields ≡ Some row

-- the first record of the file is one of these headers, of `width` fields; the others are those of the rest
pub record BeginsWithHeader (headers : List Record) (text : List ℕ) (width : ℕ) (rest : List ℕ) : Type 0 where
  pub header : Record
  pub known : is_header headers header ≡ true
  pub long : length header ≡ width
  pub parts : records_of text ≡ header ∷ records_below rest

-- the text begins with the numbers pedal, speed and raise, commas between them and this byte behind them
pub record BeginsWithDrive (ending : ℕ) (text : List ℕ) (numbers : ℕ × ℕ × ℕ) (rest : List ℕ) : Type 0 where
  pub after_pedal : List ℕ
  pub after_speed : List ℕ
  pub pedal : BeginsWithNumber 1000 (byte ",") text numbers.0 after_pedal
  pub speed : BeginsWithNumber 8000 (byte ",") after_pedal numbers.1 after_speed
  pub raise : BeginsWithNumber 10000 ending after_speed numbers.2 rest
