use Rattle.std.proofs.Common.{◌≡◌, ◌+◌, ◌*◌, ◌<◌, option_map}
use Rattle.std.specs.Option.{option_copied}
use Rattle.eg_asm.specs.Inner.Rows.{form_in}
use Rattle.eg_asm.specs.Inner.Encodings.{encoded, encoding_shown}
use Rattle.eg_asm.specs.Reading.{values_of, texts_in}
use Rattle.eg_asm.proofs.OperandLemmas.{added_from}
use Rattle.eg_asm.proofs.line.read_operands.Given as goal

-- what the operands that are left add to what is kept is what all of them give
abbrev pub invariant-loop-operand : goal.invariant-loop-operand
invariant-loop-operand l = record {
  kept : added_from (encoding_shown l.encoding) l.form.operands.now l.operand-index (option_copied l.rest)
      ≡ option_map (encoded (form_in l.form)) (values_of l.form.operands.now (texts_in (option_copied l.fn.text)));
  few : l.encoding.word < 65536 + l.operand-index * 1048576;
}
