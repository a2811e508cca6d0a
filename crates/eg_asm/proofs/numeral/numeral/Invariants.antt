use Rattle.std.proofs.Common.{◌≡◌, take, true, min}
use Rattle.std.specs.Char.{is_ascii_digit}
use Rattle.std.specs.List.{list_all}
use Rattle.eg_input.specs.Fields.{decimal_value}
use Rattle.eg_asm.proofs.numeral.numeral.Given as goal

-- the digits before
abbrev pub invariant-loop-byte : goal.invariant-loop-byte
invariant-loop-byte l = record {
  value : l.value ≡ min 65536 (decimal_value (take l.byte-index l.text));
  digits : list_all is_ascii_digit (take l.byte-index l.text) ≡ true;
}
