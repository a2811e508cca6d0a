use Rattle.std.proofs.Common.{ap, subst, option_map, refl, Ok, Err}
use Rattle.eg_toml.specs.Refusals.{Checks}
use Rattle.eg_values.specs.Calibration.{CalibrationParts, made_of}
use Rattle.eg_cal.specs.Calibration.{answer_fault}
use Rattle.eg_cal.specs.declared.key.CalFault.TheVariants as fault
use Rattle.eg_cal.proofs.TogetherLemmas.{answered-none, apart-answer}
use Rattle.eg_cal.proofs.unanswered.Unanswered.checked.Goals as goal

pub returns-in-Ok : goal.returns-in-Ok
returns-in-Ok c = subst (λ (parts : CalibrationParts). Checks (answer_fault parts) parts (Ok c.in-Ok.calibration)) c.self.view_is
    (ap (option_map fault.Answer) (answered-none _ _ (c.in-Ok.ensures.accepted.0 refl).answered), c.in-Ok.ensures.kept.0)

pub returns-in-Err-Answer : goal.returns-in-Err-Answer
returns-in-Err-Answer c =
    let u = c.self.inside in
    let parts = made_of u.rules u.plant u.times u.questions u.brake in
    subst (λ (parts : CalibrationParts). Checks (answer_fault parts) parts (Err (fault.Answer c.in-Err-Answer.index))) c.self.view_is
    (ap (option_map fault.Answer) (apart-answer parts _ _ c.in-Err-Answer.field-0-is c.in-Err-Answer.ensures.refused))
