-- What stands under a key of a campaign file (F15, F16), if the key holds what it may.
use Rattle.std.specs.Prelude.{ℕ, ℤ, pos, negsuc, ◌==◌, ◌&&◌, ◌||◌, Bool, false, not, nat_le, List, [], ◌∷◌, length, codes, bytes_eq, Option, Some, None, unwrap_or, if◌then◌else◌}
use Rattle.std.specs.List.{sum, list_all}
use Rattle.toml.specs.Data.{Data, Members, get_member, as_str, as_integer, as_bool}
use Rattle.eg_toml.specs.Values.{number_in, number_at, ◌>>=◌}
use Rattle.eg_toml.specs.Arrays.{numbers_in, array_in, one, is_rising}
use Rattle.eg_plant.specs.declared.engine_kind.EngineKind.{EngineKind}
use Rattle.eg_plant.specs.declared.engine_kind.EngineKind.TheVariants.{Gasoline, Diesel}
use Rattle.eg_plan.specs.Keys.{Content, run_name, file_name, slice_rows, engine_name, number, optional, shift, words, ticks, truths, KeyRule, text_of}

-- ---- texts ----

abbrev pub is_plain : ℕ → Bool
is_plain c = (nat_le 97 c && nat_le c 122) || (nat_le 48 c && nat_le c 57)

abbrev pub is_in_name : ℕ → Bool
is_in_name c = is_plain c || c == 45

-- F15, `name`; 45 is `-`
abbrev pub is_run_name : List ℕ → Bool
is_run_name [] = false
is_run_name (c ∷ cs) = is_plain c && list_all is_in_name cs && nat_le (length cs) 31

-- F15, `trace` and `image`; a name that begins with `-` would be taken for a flag
abbrev pub is_file_name : List ℕ → Bool
is_file_name [] = false
is_file_name (c ∷ cs) = not (c == 45) && nat_le (length cs) 199

abbrev pub when : {X : Type 0} → (X → Bool) → X → Option X
when passes x = if passes x then Some x else None

abbrev pub text_at : (List ℕ → Bool) → List ℕ → Members → Option (List ℕ)
text_at passes key ms = get_member key ms >>= as_str >>= when passes

-- ---- slices ----

abbrev pub is_budget : List ℕ → Bool
is_budget row = nat_le (sum row) 1000

-- F15, a row of `slices`
abbrev pub slice_row : Data → Option (List ℕ)
slice_row d = numbers_in 9 9 1000 d >>= when is_budget

-- F15, `slices`
abbrev pub slices_in : Data → Option (List (List ℕ))
slices_in d = array_in 1 64 (one slice_row) d

-- F15: what holds without `slices`
abbrev pub usual_slices : List (List ℕ)
usual_slices = (100 ∷ 100 ∷ 100 ∷ 100 ∷ 100 ∷ 100 ∷ 100 ∷ 100 ∷ 100 ∷ []) ∷ []

-- what is read of a value, or what holds if there is none
abbrev pub read_or : {X : Type 0} → X → (Data → Option X) → Option Data → Option X
read_or usual read None = Some usual
read_or usual read (Some d) = read d

abbrev pub slices_at : List ℕ → Members → Option (List (List ℕ))
slices_at key ms = read_or usual_slices slices_in (get_member key ms)

-- ---- the engine ----

abbrev pub engine_named : List ℕ → Option EngineKind
engine_named text =
    if bytes_eq text (codes "gasoline") then Some Gasoline
    else if bytes_eq text (codes "diesel") then Some Diesel else None

abbrev pub engine_in : Data → Option EngineKind
engine_in d = as_str d >>= engine_named

-- F15, `engine`
abbrev pub engine_at : List ℕ → Members → Option EngineKind
engine_at key ms = read_or Gasoline engine_in (get_member key ms)

-- ---- numbers and truth values of a fault ----

-- F16, `every`
abbrev pub optional_at : ℕ → List ℕ → Members → Option ℕ
optional_at high key ms = read_or 0 (number_in 0 high) (get_member key ms)

-- F16, `add`
abbrev pub is_shift : ℤ → Bool
is_shift (pos n) = nat_le 1 n && nat_le n 65535
is_shift (negsuc n) = nat_le n 65534

abbrev pub shift_in : Data → Option ℤ
shift_in d = as_integer d >>= when is_shift

abbrev pub shift_at : List ℕ → Members → Option ℤ
shift_at key ms = get_member key ms >>= shift_in

-- F16, `values` and `questions`
abbrev pub words_at : List ℕ → Members → Option (List ℕ)
words_at key ms = get_member key ms >>= numbers_in 1 64 65535

-- F16, `after`
abbrev pub ticks_in : Data → Option (List ℕ)
ticks_in d = numbers_in 1 64 19999 d >>= when is_rising

abbrev pub ticks_at : List ℕ → Members → Option (List ℕ)
ticks_at key ms = get_member key ms >>= ticks_in

-- F16, `opens`
abbrev pub truths_in : Data → Option (List Bool)
truths_in d = array_in 1 64 (one as_bool) d

abbrev pub truths_at : List ℕ → Members → Option (List Bool)
truths_at key ms = get_member key ms >>= truths_in

-- ---- what a file without a refusal holds under a key ----

abbrev bytes_as : Content → List ℕ → Members → List ℕ
bytes_as run_name key ms = unwrap_or (text_at is_run_name key ms) []
bytes_as file_name key ms = unwrap_or (text_at is_file_name key ms) []
bytes_as _ key ms = []

abbrev pub bytes_of : KeyRule → Members → List ℕ
bytes_of rule ms = bytes_as rule.content (text_of rule.key) ms

abbrev rows_as : Content → List ℕ → Members → List (List ℕ)
rows_as slice_rows key ms = unwrap_or (slices_at key ms) []
rows_as _ key ms = []

abbrev pub number_rows : KeyRule → Members → List (List ℕ)
number_rows rule ms = rows_as rule.content (text_of rule.key) ms

abbrev engine_as : Content → List ℕ → Members → EngineKind
engine_as engine_name key ms = unwrap_or (engine_at key ms) Gasoline
engine_as _ key ms = Gasoline

abbrev pub engine_of : KeyRule → Members → EngineKind
engine_of rule ms = engine_as rule.content (text_of rule.key) ms

abbrev number_as : Content → List ℕ → Members → ℕ
number_as (number low high) key ms = unwrap_or (number_at low high key ms) 0
number_as (optional high) key ms = unwrap_or (optional_at high key ms) 0
number_as _ key ms = 0

abbrev pub number_of : KeyRule → Members → ℕ
number_of rule ms = number_as rule.content (text_of rule.key) ms

abbrev shift_as : Content → List ℕ → Members → ℤ
shift_as shift key ms = unwrap_or (shift_at key ms) (pos 0)
shift_as _ key ms = pos 0

abbrev pub shift_of : KeyRule → Members → ℤ
shift_of rule ms = shift_as rule.content (text_of rule.key) ms

abbrev numbers_as : Content → List ℕ → Members → List ℕ
numbers_as words key ms = unwrap_or (words_at key ms) []
numbers_as ticks key ms = unwrap_or (ticks_at key ms) []
numbers_as _ key ms = []

abbrev pub numbers_of : KeyRule → Members → List ℕ
numbers_of rule ms = numbers_as rule.content (text_of rule.key) ms

abbrev truths_as : Content → List ℕ → Members → List Bool
truths_as truths key ms = unwrap_or (truths_at key ms) []
truths_as _ key ms = []

abbrev pub truths_of : KeyRule → Members → List Bool
truths_of rule ms = truths_as rule.content (text_of rule.key) ms
