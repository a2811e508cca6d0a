use Rattle.std.proofs.Common.{◌≡◌, ◌∙◌, sym, refl, Some, arith}
use Rattle.eg_asm.specs.declared.operand.Operand.TheVariants.{Register}
use Rattle.eg_asm.specs.Inner.Rows.{form_in}
use Rattle.eg_asm.specs.Words.{word_with}
use Rattle.eg_asm.specs.Listings.{is_of, values_in}
use Rattle.eg_asm.proofs.ListingLemmas.{usable-at, listed-more, listed-end}
use Rattle.eg_asm.proofs.form.FormRow.is_of.Goals as goal

pub loop-operand-init : goal.loop-operand-init
unfolding word_with
loop-operand-init c = record { made = let base = c.from-made.ensures in rw base refl; few = omega arith }

pub field_in-made-requires : goal.field_in-made-requires
field_in-made-requires c = usable-at c.args.self.now.operands.now c.loop-operand.operand-index _ c.requires c.loop-operand-test.true

pub loop-operand-preserved : goal.loop-operand-preserved
loop-operand-preserved c = record {
  made = listed-more c.args.word c.loop-operand.made c.field_in-made.result c.loop-operand.operand-index c.args.self.now.operands.now (Register 0) c.loop-operand-test.true c.field_in-made.ensures.value ∙ c.loop-operand.invariant.made;
  few = omega (arith, c.field_in-made.ensures.few);
}

pub returns : goal.returns
unfolding is_of
returns c =
    let made : Some c.loop-operand.made ≡ word_with _ 0 (form_in c.args.self.now) (values_in c.args.word (form_in c.args.self.now)) =
    sym (listed-end c.args.word c.loop-operand.made c.loop-operand.operand-index c.args.self.now.operands.now c.loop-operand-test.false) ∙ c.loop-operand.invariant.made in
    rw (← made, c.from.ensures) refl
