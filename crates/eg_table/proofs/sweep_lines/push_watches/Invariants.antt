use Rattle.std.proofs.Common.{◌≡◌, ◌++◌, map}
use Rattle.std.specs.Prelude.{string_bytes}
use Rattle.std.specs.List.{concat, zip}
use Rattle.std.specs.Iterator.Adapters.{zip_first, zip_second}
use Rattle.std.specs.Slice.Iter.{iter_rest}
use Rattle.eg_table.specs.SweepTexts.{watch_text, watches_text}
use Rattle.eg_table.proofs.sweep_lines.push_watches.Given as goal

-- with the counts that are left behind it the text is the whole
abbrev pub invariant-loop-watch : goal.invariant-loop-watch
invariant-loop-watch l = string_bytes l.text ++ concat (map watch_text (zip (iter_rest (zip_first l.watch-iterator)) (iter_rest (zip_second l.watch-iterator))))
    ≡ string_bytes l.fn.text ++ watches_text l.by_watch
