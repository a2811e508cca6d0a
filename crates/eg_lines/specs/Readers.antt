-- What a source of lines over a reader has left, and what it makes of the pieces that the reader shows.
use Rattle.std.specs.Prelude.{◌≡◌, ℕ, Bool, true, false, List, [], ◌∷◌, ◌++◌, take, drop, Option, Some, None, option_map, IfSome, if◌then◌else◌}
use Rattle.eg_lines.specs.Lines.{ShownLines, lines_in}
use Rattle.eg_lines.specs.declared.read_lines.Piece.{Piece}
use Rattle.eg_lines.specs.declared.read_lines.Piece.TheVariants.{Part, Line, Cut, End}

-- the lines still to come, if the reader tells its bytes; whether contracts are told of them; and how many
-- faults were met
pub record ReaderState : Type 0 where
  pub lines : Option (List (List ℕ))
  pub is_told : Bool
  pub faults : ℕ

-- the source isn't sure
abbrev pub shown_by : ReaderState → ShownLines
shown_by state =
    record { lines = if state.is_told then state.lines else None; faults = state.faults; sure = false }

-- The lines of what was taken of the next line and isn't given yet, and of what the reader has left, if it
-- tells that. If the reader stands within a line of which the first bytes were given, that line is left out.
abbrev pub lines_left : (begun : List ℕ) → (is_within : Bool) → Option (List ℕ) → Option (List (List ℕ))
lines_left begun is_within left =
    option_map (λ bytes. if is_within then drop 1 (lines_in bytes) else lines_in (begun ++ bytes)) left

-- if the lines are known, they stay as they were
abbrev pub KeepsLines : Option (List (List ℕ)) → Option (List (List ℕ)) → Type 0
KeepsLines before now = IfSome before (λ lines. now ≡ Some lines)

-- F13: the buffer got the first `most` bytes of a line, or all of a shorter line. If the lines are known,
-- that line is the first of them, and the others are still to come.
abbrev pub GivesLine : ℕ → Option (List (List ℕ)) → Option (List (List ℕ)) → List ℕ → List ℕ → Type 0
GivesLine most before now old new = (line : List ℕ) × (new ≡ old ++ take most line)
    × IfSome before (λ lines. option_map (λ rest. line ∷ rest) now ≡ Some lines)

-- if the lines are known, none was left; and the buffer is as it was
abbrev pub HasEnded : Option (List (List ℕ)) → Option (List (List ℕ)) → List ℕ → List ℕ → Type 0
HasEnded before now old new = IfSome before (λ lines. lines ≡ []) × KeepsLines before now × (new ≡ old)

abbrev pub ReadsPiece :
    ℕ → Option (List (List ℕ)) → Option (List (List ℕ)) → Piece → List ℕ → List ℕ → Type 0
ReadsPiece most before now Part old new = KeepsLines before now × (new ≡ old)
ReadsPiece most before now Line old new = GivesLine most before now old new
ReadsPiece most before now Cut old new = GivesLine most before now old new
ReadsPiece most before now End old new = HasEnded before now old new

-- the line goes on behind the bytes that were given
abbrev pub is_cut : Piece → Bool
is_cut Cut = true
is_cut _ = false
