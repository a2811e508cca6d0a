-- What stands under a key of a calibration file (F20). If the key doesn't hold what it may, the value counts
-- as 0, false or an empty list, and the file is refused.
use Rattle.std.specs.Prelude.{ℕ, Bool, false, List, [], ◌∷◌, length, Option, Some, unwrap_or}
use Rattle.toml.specs.Data.{Data, Members, get_member, as_bool}
use Rattle.eg_answer.specs.declared.questions.Question.{Question as QuestionParts}
use Rattle.eg_toml.specs.Values.{table_at, number_in, ◌>>=◌}
use Rattle.eg_toml.specs.Arrays.{numbers_in, rows_in}
use Rattle.eg_cal.specs.declared.key.CalKey.{CalKey}
use Rattle.eg_cal.specs.declared.key.CalKey.TheVariants.{Version}
use Rattle.eg_cal.specs.Keys.{Content, number, axis, values, grid, table_of, name_of, content_of}
use Rattle.eg_cal.specs.Questions.{questions_in}

-- the members of the table of this name; without a name, those of the whole document
abbrev pub members_of : List ℕ → Members → Option Members
members_of [] ms = Some ms
members_of (c ∷ cs) ms = table_at (c ∷ cs) ms

abbrev pub value_of : Members → CalKey → Option Data
value_of ms key = members_of (table_of key) ms >>= get_member (name_of key)

-- ---- the value, if it is what the key may hold

abbrev pub read_number : ℕ → ℕ → Members → CalKey → Option ℕ
read_number low high ms key = value_of ms key >>= number_in low high

abbrev pub read_truth : Members → CalKey → Option Bool
read_truth ms key = value_of ms key >>= as_bool

-- an array of least to most numbers from 0 to high
abbrev pub read_numbers : ℕ → ℕ → ℕ → Members → CalKey → Option (List ℕ)
read_numbers least most high ms key = value_of ms key >>= numbers_in least most high

-- an array of `tall` rows, each of `wide` numbers from 0 to high; the numbers stand row by row
abbrev pub read_rows : ℕ → ℕ → ℕ → Members → CalKey → Option (List ℕ)
read_rows tall wide high ms key = value_of ms key >>= rows_in tall wide high

abbrev pub read_questions : Members → CalKey → Option (List QuestionParts)
read_questions ms key = value_of ms key >>= questions_in

-- ---- what a document without a fault holds there

abbrev pub number_as : Content → Members → CalKey → ℕ
number_as (number low high) ms key = unwrap_or (read_number low high ms key) 0
number_as _ ms key = 0

abbrev pub number_of : Members → CalKey → ℕ
number_of ms key = number_as (content_of key) ms key

-- 0, if the file has no known version
abbrev pub version_of : Members → ℕ
version_of ms = number_of ms Version

abbrev pub truth_of : Members → CalKey → Bool
truth_of ms key = unwrap_or (read_truth ms key) false

abbrev pub points_as : Content → Members → CalKey → List ℕ
points_as (axis high) ms key = unwrap_or (read_numbers 2 16 high ms key) []
points_as _ ms key = []

abbrev pub points_of : Members → CalKey → List ℕ
points_of ms key = points_as (content_of key) ms key

abbrev pub point_count : Members → CalKey → ℕ
point_count ms key = length (points_of ms key)

abbrev pub values_as : Content → Members → CalKey → List ℕ
values_as (values along high) ms key =
    unwrap_or (read_numbers (point_count ms along) (point_count ms along) high ms key) []
values_as (grid down across high) ms key =
    unwrap_or (read_rows (point_count ms down) (point_count ms across) high ms key) []
values_as _ ms key = []

abbrev pub values_of : Members → CalKey → List ℕ
values_of ms key = values_as (content_of key) ms key

abbrev pub questions_of : Members → CalKey → List QuestionParts
questions_of ms key = unwrap_or (read_questions ms key) []
