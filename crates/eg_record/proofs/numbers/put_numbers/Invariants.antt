use Rattle.std.proofs.Common.{◌≡◌, ◌++◌, ◌+◌, ◌*◌, ◌≤◌, drop, length}
use Rattle.std.specs.Str.{IsAscii}
use Rattle.eg_record.specs.Texts.{numbers_text}
use Rattle.eg_record.proofs.numbers.put_numbers.Given as goal

-- the numbers from place i on are put
abbrev pub invariant-loop-i : goal.invariant-loop-i
invariant-loop-i l = record {
  text : drop l.start l.line ≡ numbers_text (drop l.i l.numbers) ++ drop l.end l.fn.line;
  least : l.start ≤ l.end;
  most : l.end + l.i * 11 ≤ l.start + length l.numbers * 11;
  ascii : IsAscii (numbers_text (drop l.i l.numbers));
}
