use Rattle.std.proofs.Common.{◌≡◌, ◌∙◌, sym, length, arith}
use Rattle.csv.specs.Records.{fields_of}
use Rattle.eg_input.proofs.FieldLemmas.{is_same_record-lengths, is_same_record-other, is_same_record-more, is_same_record-end}
use Rattle.eg_input.proofs.field.has_fields.Goals as goal

pub returns-then-len-fields : goal.returns-then-len-fields
returns-then-len-fields c = is_same_record-lengths _ _ (λ e. c.if-len-fields.true (c.len.ensures ∙ e))

pub returns-then-ne : goal.returns-then-ne
returns-then-ne c =
    let long : length (fields_of c.args.entry.now) ≡ length c.args.fields.now = omega arith in
    sym (sym c.loop-i.invariant ∙ is_same_record-other _ _ _ _ c.get.result long c.loop-i-test.true c.get.ensures.value (sym c.ne.ensures ∙ c.if-ne.true))

pub loop-i-preserved : goal.loop-i-preserved
loop-i-preserved c =
    let long : length (fields_of c.args.entry.now) ≡ length c.args.fields.now = omega arith in
    is_same_record-more _ _ _ _ c.get.result long c.loop-i-test.true c.get.ensures.value (sym c.ne.ensures ∙ c.if-ne.false) ∙ c.loop-i.invariant

pub returns : goal.returns
returns c =
    let long : length (fields_of c.args.entry.now) ≡ length c.args.fields.now = omega arith in
    sym (is_same_record-end c.loop-i.i (fields_of c.args.entry.now) c.args.fields.now long (omega arith)) ∙ c.loop-i.invariant
