use Rattle.std.proofs.Common.{◌≡◌, ◌^◌, ◌<◌, ◌*◌, ◌+◌, ◌-◌, drop}
use Rattle.std.specs.Prelude.{fold}
use Rattle.std.specs.Char.{is_ascii_digit}
use Rattle.std.specs.Str.{byte}
use Rattle.std.specs.List.{list_all}
use Rattle.eg_input.specs.Fields.{decimal_value}
use Rattle.eg_input.proofs.field.number_of.Given as goal

-- what the rest of the field adds
abbrev pub invariant-loop-byte : goal.invariant-loop-byte
invariant-loop-byte l = record {
  value : fold (λ value digit. 10 * value + (digit - byte "0")) l.value (drop l.byte-index l.field) ≡ decimal_value l.field;
  digits : list_all is_ascii_digit (drop l.byte-index l.field) ≡ list_all is_ascii_digit l.field;
  small : l.value < 10 ^ l.byte-index;
}
