-- The reference calibration is an accepted one.
use Rattle.std.proofs.Common.{◌≡◌, zero, suc, arith, lit≤, refl, All}
use Rattle.eg_torque.specs.Permit.{DoesNotFall, permitted}
use Rattle.eg_torque.specs.Excess.{is_excess}
use Rattle.eg_num.specs.Interpolation.{value_at}
use Rattle.eg_answer.specs.Folds.{mixed, fold_of}
use Rattle.eg_answer.specs.Formulas.{permitted_torque, estimated_torque, excess_number, disagreeing_pairs}
use Rattle.eg_answer.specs.Answers.{pedal_result, permitted_result, estimate_result, excess_result, pairs_result, results_of, expected_of}
use Rattle.eg_values.specs.Calibration.{GoTogether}
use Rattle.eg_values.specs.Reference.{reference_permit, reference_rules, reference_questions, reference_parts}

-- no row of its permit table falls
pub reference_does_not_fall : DoesNotFall reference_permit
reference_does_not_fall zero zero row column = lit≤ tt
reference_does_not_fall zero (suc zero) row column = lit≤ tt
reference_does_not_fall zero (suc (suc zero)) row column = lit≤ tt
reference_does_not_fall zero (suc (suc (suc j))) row column = absurd (omega arith)
reference_does_not_fall (suc zero) zero row column = lit≤ tt
reference_does_not_fall (suc zero) (suc zero) row column = lit≤ tt
reference_does_not_fall (suc zero) (suc (suc zero)) row column = lit≤ tt
reference_does_not_fall (suc zero) (suc (suc (suc j))) row column = absurd (omega arith)
reference_does_not_fall (suc (suc i)) j row column = absurd (omega arith)

-- each question's answer is the fold of its row
pub reference_answered : All (λ question. question.answer ≡ expected_of reference_rules question.row) reference_questions
unfolding value_at permitted is_excess permitted_torque estimated_torque excess_number disagreeing_pairs mixed fold_of pedal_result permitted_result estimate_result excess_result pairs_result results_of expected_of
reference_answered zero d below = refl
reference_answered (suc zero) d below = refl
reference_answered (suc (suc zero)) d below = refl
reference_answered (suc (suc (suc zero))) d below = refl
reference_answered (suc (suc (suc (suc k)))) d below = absurd (omega arith)

pub reference_goes_together : GoTogether reference_parts
reference_goes_together = record { one_kt = refl; two_questions = lit≤ tt; answered = reference_answered }
