use Rattle.std.proofs.Common.{◌≡◌, drop, map}
use Rattle.std.specs.Prelude.{find}
use Rattle.eg_asm.specs.Forms.{forms}
use Rattle.eg_asm.specs.Inner.Rows.{form_in}
use Rattle.eg_asm.specs.Listings.{is_of}
use Rattle.eg_asm.proofs.forms.form_of.Given as goal

-- the word is of none of the forms before
abbrev pub invariant-loop-form : goal.invariant-loop-form
invariant-loop-form l = find (is_of l.word) (map form_in (drop l.form-index l.form-items)) ≡ find (is_of l.word) forms
