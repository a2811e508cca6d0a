-- `sweep` writes a line for each class with the numbers of its row, and a last line with the greatest
-- reaction under listed faults.
use Rattle.std.specs.Prelude.{ℕ, List, [], ◌∷◌, ◌++◌, map, codes, decimal, Option, Some, None}
use Rattle.std.specs.List.{concat, zip}
use Rattle.eg_fault.specs.declared.class_name.ClassName.{ClassName}
use Rattle.eg_fault.specs.Names.{class_text, classes}
use Rattle.eg_record.specs.declared.watch.Watch.{Watch}
use Rattle.eg_record.specs.Detection.{watches}
use Rattle.eg_record.specs.Texts.{watch_name}
use Rattle.eg_table.specs.declared.sweep_row.SweepRow.{SweepRow}
use Rattle.eg_table.specs.Sweep.{greatest_listed}

-- a reaction, or `none`
unfoldable pub reaction_text : Option ℕ → List ℕ
reaction_text None = codes "none"
reaction_text (Some ticks) = decimal ticks

-- the count of a watch
unfoldable pub watch_text : Watch × ℕ → List ℕ
watch_text counted = codes "; " ++ watch_name counted.0 ++ codes " " ++ decimal counted.1

-- the counts of the watches in their order
unfoldable pub watches_text : List ℕ → List ℕ
watches_text by_watch = concat (map watch_text (zip watches by_watch))

-- the line of a class with this name
unfoldable pub sweep_line : List ℕ × SweepRow → List ℕ
sweep_line named =
    named.0 ++ codes ": runs " ++ decimal named.1.runs ++ codes "; none " ++ decimal named.1.none
    ++ watches_text named.1.by_watch ++ codes "; reaction " ++ reaction_text named.1.reaction ++ codes "\n"

-- the line of a class
unfoldable pub class_line : ClassName × SweepRow → List ℕ
class_line row = sweep_line (class_text row.0, row.1)

-- the last line
unfoldable pub sweep_end : List SweepRow → List ℕ
sweep_end rows = codes "greatest reaction " ++ reaction_text (greatest_listed rows) ++ codes "\n"

-- all lines
unfoldable pub sweep_lines : List SweepRow → List (List ℕ)
sweep_lines rows = map class_line (zip classes rows) ++ sweep_end rows ∷ []

unfoldable pub sweep_text_of : List SweepRow → List ℕ
sweep_text_of rows = concat (sweep_lines rows)
