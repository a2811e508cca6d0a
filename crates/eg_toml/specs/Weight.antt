-- What a document weighs (F22): about as many bytes as `toml` takes for its tree.
use Rattle.std.specs.Prelude.{ℕ, ◌+◌, ◌-◌, ◌*◌, Bool, true, false, not, ◌&&◌, ◌||◌, ◌==◌, nat_le, nat_lt, if◌then◌else◌, List, [], ◌∷◌, ◌++◌, length, take, slice_index_or, fold, bit_and}
use Rattle.std.specs.Str.{byte}
use Rattle.eg_toml.specs.declared.places.Place.{Place}
use Rattle.eg_toml.specs.declared.places.Place.TheVariants.{Outside}
use Rattle.eg_toml.specs.declared.weight.Counts.{Counts}
use Rattle.eg_toml.specs.declared.weight.Due.{Due}
use Rattle.eg_toml.specs.declared.weight.Due.TheVariants.{Nothing, Heading, Value, Item}
use Rattle.eg_toml.specs.Places.{is_delimiter, settled, is_outside, behind}

-- what is known behind some bytes of a document
pub record Weighed : Type 0 where
  -- where the next byte stands
  pub place : Place
  -- what may come there
  pub due : Due
  -- what stands in the list or the inline table that was opened last and is open still, or behind a heading
  pub counts : Counts
  -- what stands in each open list or inline table around that, from the outside in
  pub around : List Counts
  -- what these bytes weigh
  pub weight : ℕ

-- ---- What weighs ----

abbrev pub heading_weight : ℕ
heading_weight = 1480

-- a `{`, or a name with a `.` behind it
abbrev pub table_weight : ℕ
table_weight = 1296

abbrev pub text_weight : ℕ
text_weight = 32

-- F22, an `=`. A table has room for fifteen names at first. Each further name may double the room, and is
-- looked up behind the whole heading once more, so that it weighs much. Of good files only a calibration with
-- dotted names at its top has further names, at most fifteen.
abbrev pub name_weight : ℕ → ℕ
name_weight names = if nat_lt names 15 then 32 else 27_000

-- A list of this many values is full. It has room for 4 at first, and the room doubles whenever a full list
-- gets one more. (A power of two shares no bit with the number before it.)
abbrev pub is_full : ℕ → Bool
is_full values = nat_le 4 values && bit_and values (values - 1) == 0

-- F22, a value of a list: 40 for each new place of room, and 24 for the list itself
abbrev pub value_weight : ℕ → ℕ
value_weight values = if values == 0 then 184 else if is_full values then 40 * values else 0

-- F22
abbrev pub heaviest : ℕ
heaviest = 55_000_000

-- F19: how many lists and inline tables `toml` reads in one another
abbrev pub deepest : ℕ
deepest = 80

-- ---- A byte outside of comments and texts ----

-- F22: a blank, or the beginning of a comment
abbrev pub is_between : ℕ → Bool
is_between c = c == byte " " || c == byte "\t" || c == byte "\n" || c == byte "\r" || c == byte "#"

abbrev pub is_closing : ℕ → Bool
is_closing c = c == byte "]" || c == byte "}"

-- a byte begins a value of a list, or a name behind a comma of an inline table
abbrev pub begins_item : Due → ℕ → Bool
begins_item Item c = not (is_between c || is_closing c)
begins_item _ c = false

-- a byte begins a heading
abbrev pub begins_heading : Due → ℕ → Bool
begins_heading Nothing c = c == byte "["
begins_heading _ c = false

-- a value may stand here
abbrev pub takes_value : Due → Bool
takes_value Nothing = false
takes_value Heading = false
takes_value _ = true

-- a byte opens a list or an inline table
abbrev pub is_opening : Due → ℕ → Bool
is_opening due c = c == byte "{" || (c == byte "[" && takes_value due)

-- F22: if nothing was due, a `[` begins a heading, which may have a second `[`
abbrev pub due_behind_bracket : Due → Due
due_behind_bracket Nothing = Heading
due_behind_bracket Heading = Nothing
due_behind_bracket _ = Item

-- what is due behind a byte
abbrev pub due_behind : Due → ℕ → Due
due_behind due c =
    if is_between c then due
    else if c == byte "," then Item
    else if c == byte "=" then Value
    else if c == byte "[" then due_behind_bracket due
    else Nothing

-- F22, behind this many names of the table
abbrev pub sign_weight : Due → ℕ → ℕ → ℕ
sign_weight due names c =
    if begins_heading due c then heading_weight
    else if c == byte "." || c == byte "{" then table_weight
    else if c == byte "=" then name_weight names
    else if is_delimiter c && takes_value due then text_weight
    else 0

-- how many names of the table there are behind a byte
abbrev pub names_behind : Due → ℕ → ℕ → ℕ
names_behind due names c =
    if begins_heading due c then 0 else if c == byte "=" then names + 1 else names

-- F22: a value of a list, or a name behind a comma, is weighed and counted if this byte begins one
abbrev pub with_item : Weighed → ℕ → Weighed
with_item w c =
    if begins_item w.due c
    then record w {
      counts = record w.counts { values = w.counts.values + 1 };
      weight = w.weight + value_weight w.counts.values;
    }
    else w

-- a byte is weighed as a sign, and names are counted
abbrev pub with_sign : Weighed → ℕ → Weighed
with_sign w c =
    record w {
      counts = record w.counts { names = names_behind w.due w.counts.names c };
      weight = w.weight + sign_weight w.due w.counts.names c;
    }

-- nothing stands there yet
abbrev pub no_counts : Counts
no_counts = record { values = 0; names = 0 }

-- F22: what stands around what is opened, kept as deep as `toml` reads
abbrev pub kept_around : Weighed → List Counts
kept_around w = if nat_lt (length w.around) deepest then w.around ++ w.counts ∷ [] else w.around

-- a list or an inline table is opened
abbrev pub opened : Weighed → Weighed
opened w = record w { counts = no_counts; around = kept_around w }

-- F22: a list or an inline table is closed, and the counts of what is around it go on
abbrev pub closed : Weighed → Weighed
closed w =
    let outer = length w.around - 1 in
    record w { counts = slice_index_or w.around outer no_counts; around = take outer w.around }

abbrev pub with_lists : Weighed → ℕ → Weighed
with_lists w c = if is_opening w.due c then opened w else if is_closing c then closed w else w

abbrev pub with_due : Weighed → ℕ → Weighed
with_due w c = record w { due = due_behind w.due c }

-- ---- A document ----

abbrev pub weighed_outside : Weighed → ℕ → Weighed
weighed_outside w c = with_due (with_lists (with_sign (with_item w c) c) c) c

abbrev pub with_place : Weighed → Place → Weighed
with_place w place = record w { place = place }

-- what is known behind one byte more
abbrev pub weighed_on : Weighed → ℕ → Weighed
weighed_on w c =
    let place = settled w.place c in
    with_place (if is_outside place then weighed_outside w c else w) (behind place c)

-- what is known before the first byte
abbrev pub unweighed : Weighed
unweighed = record { place = Outside; due = Nothing; counts = no_counts; around = []; weight = 0 }

-- F22
abbrev pub weight_of : List ℕ → ℕ
weight_of bytes = (fold weighed_on unweighed bytes).weight

-- F22
abbrev pub is_too_heavy : List ℕ → Bool
is_too_heavy bytes = nat_lt heaviest (weight_of bytes)
