-- Where each byte of a document stands (F22): in a comment, in a text of one of four kinds, or outside of
-- these. This follows from the byte and the bytes before it.
use Rattle.std.specs.Prelude.{ℕ, ◌+◌, Bool, true, false, not, ◌&&◌, ◌||◌, ◌==◌, nat_le, if◌then◌else◌}
use Rattle.std.specs.Str.{byte}
use Rattle.eg_toml.specs.declared.places.Place.{Place}
use Rattle.eg_toml.specs.declared.places.Place.TheVariants.{Outside, Comment, Opened, Empty, Line, Lines, Escape, EscapeInLines}

abbrev pub is_delimiter : ℕ → Bool
is_delimiter c = c == byte "\"" || c == byte "'"

-- The place at this byte. If the byte isn't the delimiter, two delimiters right before it were an empty text,
-- and three or more in a text of several lines were the end of that text.
abbrev pub settled : Place → ℕ → Place
settled (Empty delimiter) c = if c == delimiter then Empty delimiter else Outside
settled (Lines delimiter run) c =
    if nat_le 3 run && not (c == delimiter) then Outside else Lines delimiter run
settled place c = place

abbrev pub is_outside : Place → Bool
is_outside Outside = true
is_outside _ = false

-- behind a byte outside
abbrev pub behind_outside : ℕ → Place
behind_outside c = if c == byte "#" then Comment else if is_delimiter c then Opened c else Outside

-- F22, behind a byte of a text that isn't its delimiter
abbrev pub in_line : ℕ → ℕ → Place
in_line delimiter c = if c == byte "\\" && delimiter == byte "\"" then Escape else Line delimiter

abbrev pub in_lines : ℕ → ℕ → Place
in_lines delimiter c = if c == byte "\\" && delimiter == byte "\"" then EscapeInLines else Lines delimiter 0

-- The place behind a byte, by the place of the byte. Delimiters in a row are counted up to three.
abbrev pub behind : Place → ℕ → Place
behind Outside c = behind_outside c
behind Comment c = if c == byte "\n" then Outside else Comment
behind (Opened delimiter) c = if c == delimiter then Empty delimiter else in_line delimiter c
behind (Empty delimiter) c = Lines delimiter 0
behind (Line delimiter) c = if c == delimiter then Outside else in_line delimiter c
behind (Lines delimiter run) c =
    if c == delimiter then Lines delimiter (if nat_le 3 run then 3 else run + 1) else in_lines delimiter c
behind Escape c = Line (byte "\"")
behind EscapeInLines c = Lines (byte "\"") 0
