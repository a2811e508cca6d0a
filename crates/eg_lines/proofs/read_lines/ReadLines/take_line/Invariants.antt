use Rattle.std.proofs.Common.{◌≡◌}
use Rattle.eg_lines.specs.Readers.{KeepsLines}
use Rattle.eg_lines.proofs.read_lines.ReadLines.take_line.Given as goal

-- so far no line was given
abbrev pub invariant-loop : goal.invariant-loop
invariant-loop g l = record {
  lines : KeepsLines l.fn.self.lines l.self.lines;
  told : l.self.is_told ≡ l.fn.self.is_told;
  faults : l.self.faults ≡ l.fn.self.faults;
  none : l.into.items ≡ l.fn.into.items;
}
