-- How a field writes a number or a truth value (F10).
use Rattle.std.specs.Prelude.{ℕ, ◌+◌, ◌*◌, ◌-◌, ◌==◌, ◌&&◌, Bool, true, false, List, length, take, drop, position, codes, fold, Option, Some, None, option_map, option_and_then, if◌then◌else◌, nat_le}
use Rattle.std.specs.Str.{byte, bytes_eq}
use Rattle.std.specs.Char.{is_ascii_digit}
use Rattle.std.specs.List.{list_all}
use Rattle.std.specs.Borrow.{Bor}
use Rattle.std.specs.Option.{option_map_or}
use Rattle.csv.specs.Records.{field_at}
use Rattle.eg_input.specs.Records.{Record}

infixl 10 ◌>>=◌
unfoldable pub decimal_value : List ℕ → ℕ
decimal_value digits = fold (λ value digit. 10 * value + (digit - byte "0")) 0 digits

abbrev pub is_decimal : ℕ → List ℕ → Bool
is_decimal most word = nat_le 1 (length word) && nat_le (length word) most && list_all is_ascii_digit word

abbrev pub decimal : ℕ → List ℕ → Option ℕ
decimal most word = if is_decimal most word then Some (decimal_value word) else None

abbrev pub is_numeral : List ℕ → Bool
is_numeral field = is_decimal 5 field

-- F10
unfoldable pub number_of : ℕ → List ℕ → Option ℕ
number_of most field =
    if is_numeral field && nat_le (decimal_value field) most then Some (decimal_value field) else None

unfoldable pub number_at : Record → ℕ → ℕ → Option ℕ
number_at fields i most = option_and_then (number_of most) (field_at fields i)

-- F10
unfoldable pub truth_of : List ℕ → Option Bool
truth_of field =
    if bytes_eq field (codes "0") then Some false
    else if bytes_eq field (codes "1") then Some true
    else None

-- F9: false, if the record has no such field
unfoldable pub truth_at : Record → ℕ → Option Bool
truth_at fields i = option_map_or truth_of (field_at fields i) (Some false)

-- ---- the fields of a text, one after another ----

abbrev pub ◌>>=◌ : {A B : Type 0} → Option A → (A → Option B) → Option B
o >>= f = option_and_then f o

-- what was found, and the text behind it, as the text is now
abbrev pub found_now : {X : Type 0} → Option (X × Bor (List ℕ)) → Option (X × List ℕ)
found_now {X} found = option_map {T = X × Bor (List ℕ)} (λ f. (f.0, f.1.now)) found

-- the field before the first of these bytes, and what stands behind the byte; none, if the byte isn't there
unfoldable pub first_field : (ending : ℕ) → List ℕ → Option (List ℕ × List ℕ)
first_field ending text =
    option_map (λ place. (take place text, drop (place + 1) text)) (position (λ byte. byte == ending) text)

-- what this field says, if anything, and what stands behind the byte
unfoldable pub first_said : {X : Type 0} → (ending : ℕ) → (List ℕ → Option X) → List ℕ → Option (X × List ℕ)
first_said ending says text = do
  parts ← first_field ending text
  said ← says parts.0
  Some (said, parts.1)
