-- The words of an image file (F23, F24). `image_words` says how a file is read. `IsImageOf`, `HasBadLineAt`
-- and `HasTooManyLines` say by the bytes of a file alone which files are accepted, and which have which
-- fault.
use Rattle.std.specs.Prelude.{◌≡◌, ◌≢◌, ◌⊎◌, ℕ, ◌+◌, ◌*◌, ◌-◌, ◌≤◌, List, [], ◌∷◌, ◌++◌, length, drop, take, fold, filter_map, All, codes, Option, Some, None, is_none, option_map, option_and_then, if◌then◌else◌, nat_lt, Result, Ok, Err}
use Rattle.std.specs.Char.{is_newline}
use Rattle.std.specs.Int.{from_be_bytes, w16}
use Rattle.std.specs.List.{AllZip, concat, onto_first, position_from}
use Rattle.std.specs.Result.{result_ok}
use Rattle.std.specs.Str.{bytes_eq}
use Rattle.std.specs.declared.vec.Vec.{Vec}
use Rattle.std.specs.declared.alloc.Global.{Global}
use Rattle.hex.specs.Hex.{decode_sized, hex_digit_value}
use Rattle.eg_input.specs.declared.fault.ImageFault.{ImageFault}
use Rattle.eg_input.specs.declared.fault.ImageFault.TheVariants as fault
use Rattle.eg_input.specs.declared.image.TheConstants.{MOST_WORDS}

-- the bytes of a line, its line feed with them
abbrev pub Line : Type 0
Line = List ℕ

-- the lines of a file, which is cut after each line feed; what stands behind the last line feed is a line too
unfoldable pub lines_of : List ℕ → List Line
lines_of [] = []
lines_of (byte ∷ bytes) =
    if is_newline byte then (byte ∷ []) ∷ lines_of bytes else onto_first byte (lines_of bytes)

-- what stands before the line feed at the end of a line, if there is one
abbrev pub before_line_feed : Line → Option (List ℕ)
before_line_feed line =
    if bytes_eq (drop (length line - 1) line) (codes "\n") then Some (take (length line - 1) line) else None

-- F23: the high byte is first
unfoldable pub word_of_digits : List ℕ → Option ℕ
word_of_digits digits = option_map (from_be_bytes w16) (result_ok (decode_sized digits 2))

-- F23
unfoldable pub word_of : Line → Option ℕ
word_of line = option_and_then word_of_digits (before_line_feed line)

-- F24, by the number of the first line that writes no word
unfoldable pub words_unless : ℕ → List Line → Option ℕ → Result (List ℕ) ImageFault
words_unless most lines (Some number) = Err (fault.Line number)
words_unless most lines None =
    if nat_lt most (length lines) then Err fault.Long else Ok (filter_map word_of lines)

-- F24, of a file that may have `most` lines; the first line is line 1
unfoldable pub line_words : ℕ → List Line → Result (List ℕ) ImageFault
line_words most lines =
    words_unless most lines (position_from (λ line. is_none (word_of line)) 1 (take most lines))

-- F23, F24
abbrev pub image_words : List ℕ → Result (List ℕ) ImageFault
image_words file = line_words MOST_WORDS (lines_of file)

-- what was read is what the file gives, unless memory ran out
abbrev pub IsImageRead : Result (List ℕ) ImageFault → Result (Vec ℕ Global) ImageFault → Type 0
IsImageRead expected (Ok words) = expected ≡ Ok words.items
IsImageRead expected (Err e) = (e ≡ fault.Memory) ⊎ (expected ≡ Err e)

-- F23, with the values of the digits
pub record WritesWord (line : Line) (word : ℕ) : Type 0 where
  pub digits : List ℕ
  pub values : List ℕ
  pub parts : line ≡ digits ++ codes "\n"
  pub four : length digits ≡ 4
  pub written : AllZip (λ digit value. hex_digit_value digit ≡ Some value) digits values
  pub number : word ≡ fold (λ number value. 16 * number + value) 0 values

abbrev pub WritesSome : Line → Type 0
WritesSome line = (word : ℕ) × WritesWord line word

-- F23
pub record IsImageOf (file words : List ℕ) : Type 0 where
  pub lines : List Line
  pub parts : file ≡ concat lines
  pub most : length lines ≤ MOST_WORDS
  pub written : AllZip WritesWord lines words

-- F24, Line: behind good lines something comes that begins with no such line
pub record HasBadLineAt (file : List ℕ) (number : ℕ) : Type 0 where
  pub good : List Line
  pub rest : List ℕ
  pub parts : file ≡ concat good ++ rest
  pub before : All WritesSome good
  pub more : rest ≢ []
  pub bad : (line : Line) (after : List ℕ) → rest ≡ line ++ after → WritesSome line → ⊥
  pub at : number ≡ length good + 1
  pub within : number ≤ MOST_WORDS

-- F24, Long
pub record HasTooManyLines (file : List ℕ) : Type 0 where
  pub good : List Line
  pub rest : List ℕ
  pub parts : file ≡ concat good ++ rest
  pub before : All WritesSome good
  pub count : length good ≡ MOST_WORDS
  pub more : rest ≢ []
