-- `table` writes a header and for each run a line with its fault, first detection and cut, stages, confirmed
-- excess, stretch and peak, reaction and trap; what isn't there is an empty column. Columns are parted by
-- commas.
use Rattle.std.specs.Prelude.{ℕ, List, [], ◌∷◌, ◌++◌, map, codes, decimal, Option, Some, None, option_map}
use Rattle.std.specs.List.{concat}
use Rattle.eg_word.specs.declared.registers.Trap.{Trap}
use Rattle.eg_fault.specs.declared.class.Fault.{Fault}
use Rattle.eg_fault.specs.Names.{name_of, class_text, keys_text}
use Rattle.eg_record.specs.declared.run_facts.RunFacts.{RunFacts}
use Rattle.eg_record.specs.declared.watch.Watch.{Watch}
use Rattle.eg_record.specs.Reactions.{is_settled}
use Rattle.eg_record.specs.Texts.{digit, trap_name, watch_name}
use Rattle.eg_table.specs.Acting.{has_acted}

-- the line above the runs: the names of the columns
unfoldable pub table_header : List ℕ
table_header =
    codes "run,class,onset,fault,acted,first,first_at,cut,cut_at,off_at,last_on,confirmed,"
    ++ codes "stretch,peak,reaction,settled,bound,trap,trap_at\n"

-- a column with a number, or an empty one, behind a comma
unfoldable pub number_column : Option ℕ → List ℕ
number_column None = codes ","
number_column (Some n) = codes "," ++ decimal n

-- `class`, as campaigns spell it, and `onset`
unfoldable pub class_columns : Option Fault → List ℕ
class_columns None = codes ",none,"
class_columns (Some fault) = codes "," ++ class_text (name_of fault.class) ++ codes "," ++ decimal fault.onset

-- its own keys with what they hold
unfoldable pub keys_column : Option Fault → List ℕ
keys_column None = codes ","
keys_column (Some fault) = codes "," ++ keys_text fault.class

-- `class`, `onset`, `fault` and `acted`, in a run of `ticks` ticks
unfoldable pub fault_columns : Option Fault → (ticks : ℕ) → List ℕ
fault_columns fault ticks =
    class_columns fault ++ keys_column fault ++ number_column (option_map digit (has_acted fault ticks))

-- `first` and `first_at`, or `cut` and `cut_at`
unfoldable pub watch_columns : Option (Watch × ℕ) → List ℕ
watch_columns None = codes ",,"
watch_columns (Some found) = codes "," ++ watch_name found.0 ++ codes "," ++ decimal found.1

-- from `off_at` to `bound`, the worst-case reaction: whether the run is settled is told where an excess is
-- confirmed in some span
unfoldable pub number_columns : (bound : ℕ) → RunFacts → List ℕ
number_columns bound told = concat (map number_column (told.facts.off ∷ told.facts.last_on
    ∷ told.facts.confirmed ∷ Some told.facts.stretch ∷ Some told.facts.peak ∷ told.reactions.longest
    ∷ option_map (λ _. digit (is_settled bound told.reactions)) told.reactions.followed ∷ Some bound ∷ []))

-- `trap` and `trap_at`
unfoldable pub trap_columns : Option (Trap × ℕ) → List ℕ
trap_columns None = codes ",,"
trap_columns (Some trap) = codes "," ++ trap_name trap.0 ++ codes "," ++ decimal trap.1

-- the line of a run
unfoldable pub table_line : (name : List ℕ) → Option Fault → (bound : ℕ) → RunFacts → List ℕ
table_line name fault bound told =
    name ++ fault_columns fault told.facts.ticks ++ watch_columns told.facts.first
    ++ watch_columns told.facts.cut ++ number_columns bound told ++ trap_columns told.trap ++ codes "\n"
