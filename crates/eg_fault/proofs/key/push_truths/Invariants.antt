use Rattle.std.proofs.Common.{◌≡◌, ◌++◌, map, take}
use Rattle.std.specs.Prelude.{string_bytes}
use Rattle.std.specs.List.{concat}
use Rattle.eg_fault.specs.Names.{truth_item}
use Rattle.eg_fault.proofs.key.push_truths.Given as goal

-- those so far are written
abbrev pub invariant-loop-truth : goal.invariant-loop-truth
invariant-loop-truth l =
    string_bytes l.text ≡ string_bytes l.fn.text ++ concat (map truth_item (take l.truth-index l.truths))
