use Rattle.std.proofs.Common.{◌≡◌, ◌+◌, ◌*◌, ◌<◌, [], drop, map, option_map}
use Rattle.eg_asm.specs.Inner.Rows.{form_in}
use Rattle.eg_asm.specs.Words.{fields_of, word_with}
use Rattle.eg_asm.specs.Listings.{value_in, values_in}
use Rattle.eg_asm.proofs.form.FormRow.is_of.Given as goal

-- what the operands that are left add is what is missing of the word of all
abbrev pub invariant-loop-operand : goal.invariant-loop-operand
invariant-loop-operand l = record {
  made : option_map (λ fields. l.made + fields) (fields_of [] 0 (drop l.operand-index l.operand-items) (map (value_in l.word) (drop l.operand-index l.operand-items)))
      ≡ word_with [] 0 (form_in l.self) (values_in l.word (form_in l.self));
  few : l.made < 65536 + l.operand-index * 1048576;
}
