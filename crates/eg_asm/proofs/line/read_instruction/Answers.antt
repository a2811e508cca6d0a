use Rattle.std.proofs.Common.{◌≡◌, ◌∙◌, ap, Some, None, arith, option_map}
use Rattle.std.proofs.lemmas.Grind.{common_steps}
use Rattle.std.specs.List.{before_first}
use Rattle.eg_asm.specs.Inner.Rows.{form_in}
use Rattle.eg_asm.specs.Forms.{form_named}
use Rattle.eg_asm.specs.Inner.Encodings.{encoding_shown, encoded, Instruction}
use Rattle.eg_asm.specs.Reading.{is_byte, texts_in, values_of, behind_first}
use Rattle.eg_asm.proofs.FormLemmas.{form_named-few}
use Rattle.eg_asm.proofs.FitsLemmas.{read-fits, room_is}
use Rattle.eg_asm.proofs.ToldLemmas.{told-instruction, told-no_form}
use Rattle.eg_asm.proofs.line.read_instruction.Goals as goal

pub returns-in_err-form : goal.returns-in_err-form
returns-in_err-form c =
    let none : form_named (before_first (is_byte 32) c.args.text.now) ≡ None = rw (← c.cut.ensures.front) (grind (arith, common_steps)) in
    let e = told-no_form c.args.text.now none in
    grind (arith, common_steps)

pub read_operands-requires : goal.read_operands-requires
read_operands-requires c =
    let found : form_named c.cut.result.0.now ≡ Some (form_in c.in_ok-form.form.now) = grind (arith, common_steps) in
    form_named-few c.cut.result.0.now (form_in c.in_ok-form.form.now) found

pub returns-in_err-encoding : goal.returns-in_err-encoding
returns-in_err-encoding c =
    let form = form_in c.in_ok-form.form.now in
    let found : form_named (before_first (is_byte 32) c.args.text.now) ≡ Some form = rw (← c.cut.ensures.front) (grind (arith, common_steps)) in
    let none : c.read_operands.result ≡ None = grind (arith, common_steps) in
    let read : None ≡ option_map (encoded form) (values_of form.operands (texts_in (behind_first 32 c.args.text.now))) = rw (none, c.cut.ensures.behind) at c.read_operands.ensures in
    let e = told-instruction c.args.text.now form found in
    let told_none = ap (option_map Instruction) read in
    grind (arith, common_steps)

pub overflow_cast-result : goal.overflow_cast-result
overflow_cast-result c =
    let form = form_in c.in_ok-form.form.now in
    let found : form_named c.cut.result.0.now ≡ Some form = grind (arith, common_steps) in
    let some : c.read_operands.result ≡ Some c.in_ok-encoding.encoding = grind (arith, common_steps) in
    let fits = read-fits c.cut.result.0.now form _ (encoding_shown c.in_ok-encoding.encoding) found (rw some at c.read_operands.ensures) in
    omega arith

pub invariant_of-result : goal.invariant_of-result
invariant_of-result c =
    let form = form_in c.in_ok-form.form.now in
    let found : form_named c.cut.result.0.now ≡ Some form = grind (arith, common_steps) in
    let some : c.read_operands.result ≡ Some c.in_ok-encoding.encoding = grind (arith, common_steps) in
    let fits = read-fits c.cut.result.0.now form _ (encoding_shown c.in_ok-encoding.encoding) found (rw some at c.read_operands.ensures) in
    record { fits = omega (arith, room_is c.in_ok-encoding.encoding.jump) }

pub returns : goal.returns
returns c =
    let form = form_in c.in_ok-form.form.now in
    let found : form_named (before_first (is_byte 32) c.args.text.now) ≡ Some form = rw (← c.cut.ensures.front) (grind (arith, common_steps)) in
    let some : c.read_operands.result ≡ Some c.in_ok-encoding.encoding = grind (arith, common_steps) in
    let read : Some (encoding_shown c.in_ok-encoding.encoding) ≡ option_map (encoded form) (values_of form.operands (texts_in (behind_first 32 c.args.text.now))) =
    rw (some, c.cut.ensures.behind) at c.read_operands.ensures in
    ap (option_map Instruction) read ∙ told-instruction c.args.text.now form found
