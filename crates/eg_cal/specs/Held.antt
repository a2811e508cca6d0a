-- What a key of a calibration file may hold (F20), in the words of TOML, and which version has it.
use Rattle.std.specs.Prelude.{◌≤◌, ℕ, All, Option, IsSome}
use Rattle.std.specs.Bool.{⊤}
use Rattle.toml.specs.Data.{Data, boolean, Members}
use Rattle.eg_toml.specs.Held.{HoldsValue, natural, array_of, IsBetween, AreMany}
use Rattle.eg_num.specs.Interpolation.{IsAxis}
use Rattle.eg_cal.specs.declared.key.CalKey.{CalKey}
use Rattle.eg_cal.specs.declared.key.CalKey.TheVariants.{PermitBrake, PermitFall}
use Rattle.eg_cal.specs.Keys.{Content, number, truth, axis, values, grid, questions, nothing, content_of}
use Rattle.eg_cal.specs.Contents.{value_of, point_count, read_questions}

-- an array of `many` numbers from 0 to `high`
abbrev pub IsNumberArray : ℕ → ℕ → Option Data → Type 0
IsNumberArray many high o = HoldsValue (array_of natural) (AreMany many many (λ n. n ≤ high)) o

-- an array of 2 to 16 strictly rising numbers from 0 to `high`
abbrev pub IsAxisArray : ℕ → Option Data → Type 0
IsAxisArray high o = HoldsValue (array_of natural) (λ points. IsAxis points × All (λ n. n ≤ high) points) o

-- an array of `tall` arrays, each of `wide` numbers from 0 to `high`
abbrev pub IsRowArray : ℕ → ℕ → ℕ → Option Data → Type 0
IsRowArray tall wide high o =
    HoldsValue (array_of (array_of natural)) (AreMany tall tall (AreMany wide wide (λ n. n ≤ high))) o

abbrev pub Holds : Content → Members → CalKey → Type 0
Holds (number low high) ms key = HoldsValue natural (IsBetween low high) (value_of ms key)
Holds truth ms key = HoldsValue boolean (λ b. ⊤) (value_of ms key)
Holds (axis high) ms key = IsAxisArray high (value_of ms key)
Holds (values along high) ms key = IsNumberArray (point_count ms along) high (value_of ms key)
Holds (grid down across high) ms key =
    IsRowArray (point_count ms down) (point_count ms across) high (value_of ms key)
Holds questions ms key = IsSome (read_questions ms key)
Holds nothing ms key = ⊤

abbrev pub IsHeld : Members → CalKey → Type 0
IsHeld ms key = Holds (content_of key) ms key

-- F20: a version of the format has this key
abbrev pub IsKeyOf : ℕ → CalKey → Type 0
IsKeyOf version PermitBrake = 2 ≤ version
IsKeyOf version PermitFall = 3 ≤ version
IsKeyOf version _ = ⊤
