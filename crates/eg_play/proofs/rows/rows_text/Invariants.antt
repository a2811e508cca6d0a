use Rattle.std.proofs.Common.{◌≡◌, ◌++◌, map}
use Rattle.std.specs.Prelude.{string_bytes}
use Rattle.std.specs.List.{concat, zip}
use Rattle.std.specs.Iterator.Adapters.{zip_first, zip_second}
use Rattle.std.specs.Slice.Iter.{iter_rest}
use Rattle.eg_play.specs.Texts.{header_of, line_of}
use Rattle.eg_play.proofs.rows.rows_text.Given as goal

-- with the lines of the runs that are left behind it the text has the header and the lines of all
abbrev pub invariant-loop-input : goal.invariant-loop-input
invariant-loop-input l =
    string_bytes l.text ++ concat (map (line_of l.columns l.bound) (zip (iter_rest (zip_first l.input-iterator)) (iter_rest (zip_second l.input-iterator))))
    ≡ header_of l.columns ++ concat (map (line_of l.columns l.bound) (zip l.inputs l.told))
