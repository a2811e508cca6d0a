-- `margins` writes a header and for each run a line with its fault, the greatest weights of six debouncers,
-- and the surplus, which may be below 0; what isn't there is an empty column. Columns are parted by commas.
use Rattle.std.specs.Prelude.{ℕ, ℤ, List, [], ◌∷◌, ◌++◌, map, codes, Option, Some, None}
use Rattle.std.specs.List.{concat}
use Rattle.std.specs.Fmt.{signed_decimal}
use Rattle.eg_fault.specs.declared.class.Fault.{Fault}
use Rattle.eg_record.specs.declared.margins.Counters.{Counters}
use Rattle.eg_record.specs.declared.margins.Margins.{Margins}
use Rattle.eg_table.specs.Texts.{class_columns, number_column}

-- the line above the runs: the names of the columns
unfoldable pub margins_header : List ℕ
margins_header = codes "run,class,onset,pedal,plate,load,speed,torque,answers,surplus\n"

-- from `pedal` to `answers`
unfoldable pub weight_columns : Counters → List ℕ
weight_columns greatest = concat (map (λ weight. number_column (Some weight)) (greatest.pedal ∷ greatest.plate
    ∷ greatest.load ∷ greatest.speed ∷ greatest.torque ∷ greatest.answers ∷ []))

-- `surplus`: a column with a signed number, or an empty one
unfoldable pub surplus_column : Option ℤ → List ℕ
surplus_column None = codes ","
surplus_column (Some n) = codes "," ++ signed_decimal n

-- the line of a run
unfoldable pub margins_line : (name : List ℕ) → Option Fault → Margins → List ℕ
margins_line name fault margins =
    name ++ class_columns fault ++ weight_columns margins.greatest ++ surplus_column margins.surplus
    ++ codes "\n"
