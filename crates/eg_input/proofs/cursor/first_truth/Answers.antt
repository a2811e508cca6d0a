use Rattle.std.proofs.Common.{◌∙◌, ◌-◌, ap, drop, length, arith, Some, None, sym}
use Rattle.std.proofs.lemmas.List.{take_all, length-drop}
use Rattle.std.proofs.lemmas.Grind.{common_steps}
use Rattle.std.proofs.lemmas.Bool.Decides.{nat_tests}
use Rattle.eg_input.specs.Fields.{truth_of}
use Rattle.eg_input.proofs.CursorLemmas.{no_digit, digit-first, said-begins}
use Rattle.eg_input.proofs.cursor.first_truth.Goals.{then-text-lt2-via-then-text-lt2, then-text-lt2-via-else-text-lt2+then-text-ending}
use Rattle.eg_input.proofs.cursor.first_truth.Goals as goal

pub returns-then-text-lt2-clause-said : goal.returns-then-text-lt2-clause-said
returns-then-text-lt2-clause-said c = elim c.then-text-lt2.branch [
  | then-text-lt2-via-then-text-lt2 w ↦ no_digit c.args.ending c.args.text.now (λ room. absurd (omega (arith, room, w.if-text-lt2)))
  | then-text-lt2-via-else-text-lt2+then-text-ending w ↦ no_digit c.args.ending c.args.text.now (λ room. grind (arith, common_steps, nat_tests))
]

pub returns-in_err-truth-clause-said : goal.returns-in_err-truth-clause-said
returns-in_err-truth-clause-said c =
    rw c.from_residual.ensures
    (digit-first c.args.ending c.args.text.now None c.requires (omega arith) (grind (arith, common_steps, nat_tests)) c.in_err-truth.ensures)

pub returns-clause-said : goal.returns-clause-said
returns-clause-said c =
    let behind = drop 2 c.args.text.now in
    let all = take_all (length c.args.text.now - 2) behind (omega (arith, length-drop 2 c.args.text.now)) in
    ap (λ rest. Some (c.in_ok-truth.truth, rest)) all
    ∙ digit-first c.args.ending c.args.text.now (Some c.in_ok-truth.truth) c.requires (omega arith) (grind (arith, common_steps, nat_tests)) c.in_ok-truth.ensures

pub returns-clause-begins : goal.returns-clause-begins
returns-clause-begins c = said-begins c.args.ending truth_of c.args.text.now _ _ (sym (returns-clause-said c))
