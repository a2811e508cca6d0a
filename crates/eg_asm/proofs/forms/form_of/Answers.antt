use Rattle.std.proofs.Common.{◌∙◌, sym, refl}
use Rattle.eg_asm.specs.Inner.Rows.{form_in}
use Rattle.eg_asm.specs.Listings.{is_of, form_of}
use Rattle.eg_asm.specs.Inner.Usable.{is_usable}
use Rattle.eg_asm.proofs.FormLemmas.{find-here, find-nowhere}
use Rattle.eg_asm.proofs.forms.form_of.Goals as goal

pub returns-then-is_of-clause-form : goal.returns-then-is_of-clause-form
unfolding form_of
returns-then-is_of-clause-form c =
    let found = find-here form_in (is_of c.args.word) c.all_forms-form-items.result.now c.loop-form.form-index _ c.loop-form-test.true (sym c.is_of.ensures ∙ c.if-is_of.true) in
    rw (sym c.loop-form.invariant ∙ found) refl

pub returns-clause-usable : goal.returns-clause-usable
unfolding is_usable
returns-clause-usable c = refl

pub returns-clause-form : goal.returns-clause-form
unfolding form_of
returns-clause-form c = rw (sym c.loop-form.invariant ∙ find-nowhere form_in (is_of c.args.word) c.all_forms-form-items.result.now c.loop-form.form-index c.loop-form-test.false) refl
