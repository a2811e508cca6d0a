use Rattle.std.proofs.Common.{◌≡◌, ◌∙◌, refl, true, get_or, Some, None, arith, option_map}
use Rattle.std.specs.Prelude.{is_some}
use Rattle.std.specs.Option.{option_copied}
use Rattle.std.proofs.lemmas.Grind.{common_steps}
use Rattle.eg_asm.specs.declared.operand.Operand.TheVariants.{Register}
use Rattle.eg_asm.specs.Inner.Encodings.{encoding_shown, with_operand}
use Rattle.eg_asm.specs.Reading.{value_of, is_byte}
use Rattle.std.specs.List.{before_first}
use Rattle.eg_asm.proofs.OperandLemmas.{added_from, added-more, added-bad, added-missing, added-past, added-all}
use Rattle.eg_asm.proofs.line.read_operands.Goals as goal

pub loop-operand-init : goal.loop-operand-init
unfolding added_from
loop-operand-init c = record { kept = let base = c.from.ensures in rw base refl; few = omega arith }

pub returns-in_err-rest : goal.returns-in_err-rest
returns-in_err-rest c =
    let e = added-missing (encoding_shown c.loop-operand.encoding) c.args.form.now.operands.now c.loop-operand.operand-index (Register 0) c.loop-operand-test.true in
    let none : c.loop-operand.rest ≡ None = grind (arith, common_steps) in
    let kept = rw none at c.loop-operand.invariant.kept in
    grind (arith, common_steps)

pub returns-in_err-encoding : goal.returns-in_err-encoding
returns-in_err-encoding c =
    let kept = encoding_shown c.loop-operand.encoding in
    let operand = get_or c.args.form.now.operands.now c.loop-operand.operand-index (Register 0) in
    let some : c.loop-operand.rest ≡ Some c.in_ok-rest.field-0 = grind (arith, common_steps) in
    let none : c.with.result ≡ None = grind (arith, common_steps) in
    let bad : None ≡ option_map (with_operand kept operand) (value_of operand (before_first (is_byte 44) c.in_ok-rest.field-0.now)) =
    rw (none, c.cut.ensures.front) at c.with.ensures.shown in
    let e = added-bad kept c.args.form.now.operands.now c.loop-operand.operand-index (Register 0) c.in_ok-rest.field-0.now c.loop-operand-test.true bad in
    let was = rw some at c.loop-operand.invariant.kept in
    grind (arith, common_steps)

pub loop-operand-preserved : goal.loop-operand-preserved
loop-operand-preserved c =
    let kept = encoding_shown c.loop-operand.encoding in
    let operand = get_or c.args.form.now.operands.now c.loop-operand.operand-index (Register 0) in
    let some : c.loop-operand.rest ≡ Some c.in_ok-rest.field-0 = grind (arith, common_steps) in
    let found : c.with.result ≡ Some c.in_ok-encoding.encoding = grind (arith, common_steps) in
    let good : Some (encoding_shown c.in_ok-encoding.encoding) ≡ option_map (with_operand kept operand) (value_of operand (before_first (is_byte 44) c.in_ok-rest.field-0.now)) =
    rw (found, c.cut.ensures.front) at c.with.ensures.shown in
    let e = added-more kept (encoding_shown c.in_ok-encoding.encoding) c.args.form.now.operands.now c.loop-operand.operand-index (Register 0) c.in_ok-rest.field-0.now c.loop-operand-test.true good in
    let was = rw some at c.loop-operand.invariant.kept in
    record { kept = rw c.cut.ensures.behind (e ∙ was); few = omega (arith, c.in_ok-encoding.ensures.few) }

pub returns-then-is_some : goal.returns-then-is_some
returns-then-is_some c =
    let more : is_some (option_copied c.loop-operand.rest) ≡ true = grind (arith, common_steps) in
    let e = added-past (encoding_shown c.loop-operand.encoding) c.args.form.now.operands.now c.loop-operand.operand-index (option_copied c.loop-operand.rest) c.loop-operand-test.false more in
    let was = c.loop-operand.invariant.kept in
    grind (arith, common_steps)

pub returns : goal.returns
returns c =
    let none : c.loop-operand.rest ≡ None = grind (arith, common_steps) in
    let e = added-all (encoding_shown c.loop-operand.encoding) c.args.form.now.operands.now c.loop-operand.operand-index c.loop-operand-test.false in
    let was = rw none at c.loop-operand.invariant.kept in
    grind (arith, common_steps)
