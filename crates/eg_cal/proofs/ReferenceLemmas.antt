-- What the reference file says, computed.
use Rattle.std.proofs.Common.{◌≡◌, Ok, refl}
use Rattle.std.specs.Str.{chars, is_utf8}
use Rattle.toml.proofs.OnLiterals.{toml_on_literals}
use Rattle.eg_num.specs.Interpolation.{value_at}
use Rattle.eg_torque.specs.Permit.{permitted}
use Rattle.eg_torque.specs.Excess.{is_excess}
use Rattle.eg_answer.specs.Folds.{mixed, fold_of}
use Rattle.eg_answer.specs.Formulas.{permitted_torque, estimated_torque, excess_number, disagreeing_pairs}
use Rattle.eg_answer.specs.Answers.{pedal_result, permitted_result, estimate_result, excess_result, pairs_result, results_of, expected_of}
use Rattle.eg_toml.specs.Documents.{document_of}
use Rattle.eg_values.specs.Reference.{reference_parts}
use Rattle.eg_cal.specs.Questions.{readings_in, row_in, asked_in}
use Rattle.eg_cal.specs.Checks.{first_fault}
use Rattle.eg_cal.specs.Names.{is_all_known}
use Rattle.eg_cal.specs.Calibration.{first_from, calibration_of}
use Rattle.eg_cal.specs.Reference.{reference_text}

pub reference_known : calibration_of (document_of reference_text) ≡ Ok reference_parts
unfolding toml_on_literals chars is_utf8 value_at permitted is_excess permitted_torque estimated_torque excess_number disagreeing_pairs mixed fold_of pedal_result permitted_result estimate_result excess_result pairs_result results_of expected_of readings_in row_in asked_in first_fault is_all_known first_from
reference_known = refl
