use Rattle.std.proofs.Common.{◌≡◌, false, true, List, sym, subst}
use Rattle.eg_plant.specs.PlantParts.{PlantParts}
use Rattle.eg_answer.specs.Times.{TimeParts}
use Rattle.eg_answer.specs.declared.rules.Rules.{Rules}
use Rattle.eg_answer.specs.declared.questions.Question.{Question}
use Rattle.eg_values.specs.Calibration.{made_of, GoTogether}
use Rattle.eg_values.specs.Reference.{reference_plant, reference_times, reference_questions}
use Rattle.eg_values.proofs.ReferenceLemmas.{reference_goes_together}
use Rattle.eg_values.proofs.standard.reference.Goals as goal

-- these parts go together
abbrev Together : Rules → PlantParts → TimeParts → List Question → Type 0
Together r p t q = GoTogether (made_of r p t q false)

pub unreachable-requires : goal.unreachable-requires
unreachable-requires c =
    let P : Rules → Type 0 = λ r. Together r reference_plant reference_times reference_questions in
    let Q : PlantParts → Type 0 = λ p. Together c.rules.result p reference_times reference_questions in
    let R : TimeParts → Type 0 = λ t. Together c.rules.result c.plant.result t reference_questions in
    let S : List Question → Type 0 = λ q. Together c.rules.result c.plant.result c.times.result q in
    let together = subst S (sym c.questions.ensures) (subst R (sym c.times.ensures) (subst Q (sym c.plant.ensures) (subst P (sym c.rules.ensures) reference_goes_together))) in
    let refused : false ≡ true = c.in_default.ensures.accepted.1 together in
    absurd cc
