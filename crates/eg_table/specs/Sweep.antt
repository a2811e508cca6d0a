-- A class's row has how many runs there are under its faults, in how many nothing is found, how often each
-- watch is first, and the greatest reaction.
use Rattle.std.specs.Prelude.{ℕ, ◌==◌, Bool, max, is_none, List, [], ◌∷◌, map, take, length, count_by, Option, Some, None, option_map}
use Rattle.std.specs.List.{filter, filter_map, fold, zip}
use Rattle.eg_fault.specs.declared.class_name.ClassName.{ClassName}
use Rattle.eg_fault.specs.declared.class_name.ClassName.TheVariants.{Lapse}
use Rattle.eg_fault.specs.declared.class.Fault.{Fault}
use Rattle.eg_fault.specs.Names.{name_of, class_index, classes}
use Rattle.eg_record.specs.declared.facts.Facts.{Facts}
use Rattle.eg_record.specs.declared.watch.Watch.{Watch}
use Rattle.eg_record.specs.Detection.{watches, is_watch}
use Rattle.eg_record.specs.Facts.{reaction_in}
use Rattle.eg_table.specs.declared.sweep_row.SweepRow.{SweepRow}

-- ---- the runs of a class ----

-- of runs, each with its fault and its facts, the facts of those whose fault is of this class
unfoldable pub facts_under : ClassName → List (Fault × Facts) → List Facts
facts_under class runs =
    map (λ run. run.1) (filter (λ run. class_index (name_of run.0.class) == class_index class) runs)

-- ---- a row ----

-- this watch is the first that is found in a run with these facts
unfoldable pub is_found_first : Watch → Facts → Bool
is_found_first watch facts = is_watch watch (option_map (λ detection. detection.0) facts.first)

-- the greatest of some numbers, if there are any
unfoldable pub greatest_number : List ℕ → Option ℕ
greatest_number [] = None
greatest_number (n ∷ others) = Some (fold max n others)

-- the row of runs with these facts
unfoldable pub row_of : List Facts → SweepRow
row_of runs = record {
  runs = length runs;
  none = count_by (λ facts. is_none facts.first) runs;
  by_watch = map (λ watch. count_by (is_found_first watch) runs) watches;
  reaction = greatest_number (filter_map reaction_in runs);
}

-- ---- the table ----

-- the rows of the classes
unfoldable pub class_rows : List (Fault × Facts) → List SweepRow
class_rows runs = map (λ class. row_of (facts_under class runs)) classes

-- the rows of runs under these faults that have these facts
unfoldable pub table_of : List Fault → List Facts → List SweepRow
table_of faults facts = class_rows (zip faults facts)

-- the greatest reaction under listed faults: that of the rows before the one of lapses
unfoldable pub greatest_listed : List SweepRow → Option ℕ
greatest_listed rows = greatest_number (filter_map (λ row. row.reaction) (take (class_index Lapse) rows))
