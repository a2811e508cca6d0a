use Rattle.std.proofs.Common.{◌∙◌, refl, sym, Some}
use Rattle.eg_input.specs.Fields.{number_of}
use Rattle.eg_input.proofs.CursorLemmas.{said-none, said-at, said-begins, found-begins, begins-limit}
use Rattle.eg_input.proofs.cursor.first_number.Goals as goal

pub returns-in-Some-clause-begins : goal.returns-in-Some-clause-begins
returns-in-Some-clause-begins c = said-begins c.args.ending (number_of c.args.most) c.args.text.now _ _ (sym c.in-Some.ensures)

pub returns-in-Some-clause-limit : goal.returns-in-Some-clause-limit
returns-in-Some-clause-limit c = begins-limit c.args.ending c.args.most c.args.text.now (Some c.in-Some.found) (returns-in-Some-clause-begins c)

pub returns-in_err-first_place-clause-said : goal.returns-in_err-first_place-clause-said
returns-in_err-first_place-clause-said c =
    rw c.from_residual.ensures (said-none c.args.ending (number_of c.args.most) c.args.text.now c.in_err-first_place.ensures)

pub returns-clause-said : goal.returns-clause-said
returns-clause-said c =
    c.number_before.ensures ∙ said-at c.args.ending (number_of c.args.most) c.args.text.now c.in_ok-first_place.field-0 _ c.in_ok-first_place.ensures refl

pub returns-clause-begins : goal.returns-clause-begins
returns-clause-begins c = found-begins c.args.ending (number_of c.args.most) c.args.text.now c.number_before.result (returns-clause-said c)

pub returns-clause-limit : goal.returns-clause-limit
returns-clause-limit c = begins-limit c.args.ending c.args.most c.args.text.now c.number_before.result (returns-clause-begins c)
