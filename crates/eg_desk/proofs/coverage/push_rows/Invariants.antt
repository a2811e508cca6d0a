use Rattle.std.proofs.Common.{◌≡◌, ◌++◌, take}
use Rattle.std.specs.Prelude.{string_bytes}
use Rattle.eg_desk.specs.Coverage.{coverage_lines}
use Rattle.eg_desk.proofs.coverage.push_rows.Given as goal

-- the rows of the cases so far stand behind what was there
abbrev pub invariant-loop-case : goal.invariant-loop-case
invariant-loop-case l = string_bytes l.text ≡ string_bytes l.fn.text ++ coverage_lines l.ticks (take l.case-index l.cases)
