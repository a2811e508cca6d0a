use Rattle.std.proofs.Common.{◌≡◌, ◌++◌, map}
use Rattle.std.specs.Prelude.{string_bytes}
use Rattle.std.specs.List.{concat, zip}
use Rattle.std.specs.Iterator.Adapters.{zip_first, zip_second}
use Rattle.std.specs.Slice.Iter.{iter_rest}
use Rattle.eg_fault.specs.Names.{classes}
use Rattle.eg_table.specs.SweepTexts.{class_line}
use Rattle.eg_table.proofs.sweep_lines.sweep_text.Given as goal

-- with the lines of the classes that are left behind it the text has the lines of all
abbrev pub invariant-loop-class : goal.invariant-loop-class
invariant-loop-class l = string_bytes l.text ++ concat (map class_line (zip (iter_rest (zip_first l.class-iterator)) (iter_rest (zip_second l.class-iterator))))
    ≡ concat (map class_line (zip classes l.rows))
