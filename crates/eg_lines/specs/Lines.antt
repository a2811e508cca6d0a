-- What contracts see of a source of lines, which lies outside the program: what it shows at a moment, and how
-- a call changes that.
use Rattle.std.specs.Prelude.{◌≡◌, ◌==◌, ℕ, List, [], ◌∷◌, ◌++◌, take, Bool, if◌then◌else◌, Option, option_map, IfSome}
use Rattle.std.specs.List.{onto_first}

-- the lines still to come, each without its line feed, if contracts are told of them; how many faults of
-- reading were met; and whether the source is sure, so that reading never fails
pub record ShownLines : Type 0 where
  pub lines : Option (List (List ℕ))
  pub faults : ℕ
  pub sure : Bool

-- F13: the lines of a text, each without its line feed. What stands behind the last line feed is a line, if
-- anything stands there.
unfoldable pub lines_in : List ℕ → List (List ℕ)
lines_in [] = []
lines_in (byte ∷ bytes) =
    if byte == 10 then [] ∷ lines_in bytes else onto_first byte (lines_in bytes)

-- a line came: the buffer keeps what it held, and gets the first `most` bytes of the line, or all of a
-- shorter line
abbrev pub NextLine : ℕ → ShownLines → ShownLines → List ℕ → List ℕ → Type 0
NextLine most before now old new =
    (line : List ℕ) × (before.lines ≡ option_map (λ rest. line ∷ rest) now.lines)
    × (new ≡ old ++ take most line)

-- no line was left, and the buffer is as it was
abbrev pub EndsLines : ShownLines → ShownLines → List ℕ → List ℕ → Type 0
EndsLines before now old new =
    IfSome before.lines (λ lines. lines ≡ []) × (now.lines ≡ before.lines) × (new ≡ old)
