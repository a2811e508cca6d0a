use Rattle.std.proofs.Common.{◌≡◌, ◌++◌, ◌+◌, ◌*◌, ◌≤◌, drop}
use Rattle.std.specs.Prelude.{◌==◌}
use Rattle.eg_record.proofs.NamesLemmas.{is_nil, found_from, joined}
use Rattle.eg_record.proofs.row_line.put_found.Given as goal

-- the names of those from place i on are put
abbrev pub invariant-loop-i : goal.invariant-loop-i
invariant-loop-i l = record {
  text : drop l.start l.line ≡ joined (found_from l.found l.i) ++ drop l.end l.fn.line;
  least : l.start ≤ l.end;
  most : l.end + l.i * 8 ≤ l.start + 64;
  none : (l.start == l.end) ≡ is_nil (found_from l.found l.i);
}
