-- Files of the three versions worked out by the definitions.
use Rattle.std.proofs.Common.{◌≡◌, ℕ, Bool, true, false, List, [], ◌∷◌, ◌++◌, ◌+◌, drop, length, map, codes, Option, Some, None, option_map, Ok, Err, refl}
use Rattle.std.specs.Str.{chars, is_utf8}
use Rattle.toml.proofs.OnLiterals.{toml_on_literals}
use Rattle.eg_num.specs.Interpolation.{value_at}
use Rattle.eg_torque.specs.Permit.{permitted}
use Rattle.eg_torque.specs.Excess.{is_excess}
use Rattle.eg_answer.specs.Folds.{mixed, fold_of}
use Rattle.eg_answer.specs.Formulas.{permitted_torque, estimated_torque, excess_number, disagreeing_pairs}
use Rattle.eg_answer.specs.Answers.{pedal_result, permitted_result, estimate_result, excess_result, pairs_result, results_of, expected_of}
use Rattle.eg_toml.specs.Documents.{document_of}
use Rattle.eg_values.specs.Reference.{reference_rules, reference_parts}
use Rattle.eg_cal.specs.declared.key.CalKey.TheVariants as key
use Rattle.eg_cal.specs.declared.key.CalFault.{CalFault}
use Rattle.eg_cal.specs.declared.key.CalFault.TheVariants.{Key, Answer}
use Rattle.eg_cal.specs.Questions.{readings_in, row_in, asked_in}
use Rattle.eg_cal.specs.Checks.{first_fault}
use Rattle.eg_cal.specs.Names.{is_all_known}
use Rattle.eg_cal.specs.Calibration.{first_from, unknown_fault, refusal_of, brake_of, fall_of, calibration_of}
use Rattle.eg_cal.specs.Answers.{answers_of, with_answers}
use Rattle.eg_cal.specs.Reference.{reference_text}
use Rattle.eg_toml.specs.Refusals.{seen}

-- the reference file in version 2, with the brake
abbrev with_brake : List ℕ
with_brake = codes "version = 2\n[permit]\nbrake = true\n" ++ drop (length (codes "version = 1\n[permit]\n")) reference_text

with_brake_known : calibration_of (document_of with_brake) ≡ Ok (record reference_parts { brake = true })
unfolding toml_on_literals chars is_utf8 value_at permitted is_excess permitted_torque estimated_torque excess_number disagreeing_pairs mixed fold_of pedal_result permitted_result estimate_result excess_result pairs_result results_of expected_of readings_in row_in asked_in first_fault is_all_known first_from
with_brake_known = refl

-- the reference file in version 3, with a ramp
abbrev with_ramp : List ℕ
with_ramp = codes "version = 3\n[permit]\nbrake = false\nfall = 50\n" ++ drop (length (codes "version = 1\n[permit]\n")) reference_text

with_ramp_known : calibration_of (document_of with_ramp) ≡ Ok (record reference_parts { rules = record reference_rules { fall = 50 } })
unfolding toml_on_literals chars is_utf8 value_at permitted is_excess permitted_torque estimated_torque excess_number disagreeing_pairs mixed fold_of pedal_result permitted_result estimate_result excess_result pairs_result results_of expected_of readings_in row_in asked_in first_fault is_all_known first_from
with_ramp_known = refl

-- the reference file with a threshold of 300, by which the third answer is another
abbrev before_threshold : List ℕ
before_threshold = codes "version = 1\n[permit]\npedal = [0, 500, 1000]\nspeed = [800, 3000, 6000]\ntable = [[200, 100, 0], [1000, 1200, 900], [2000, 2400, 1800]]\nthreshold = "

abbrev with_threshold : List ℕ
with_threshold = before_threshold ++ codes "300" ++ drop (length before_threshold + 3) reference_text

abbrev right : List ℕ
right = 8842 ∷ 55753 ∷ 44815 ∷ 19505 ∷ []

-- it is refused for that answer; all right ones are told; and with these put in it is accepted
threshold_refused : calibration_of (document_of with_threshold) ≡ Err (Answer 2)
unfolding toml_on_literals chars is_utf8 value_at permitted is_excess permitted_torque estimated_torque excess_number disagreeing_pairs mixed fold_of pedal_result permitted_result estimate_result excess_result pairs_result results_of expected_of readings_in row_in asked_in first_fault is_all_known first_from
threshold_refused = refl

threshold_answered : seen (map (λ question. question.answer)) (answers_of (document_of with_threshold)) ≡ Ok right
unfolding toml_on_literals chars is_utf8 value_at permitted is_excess permitted_torque estimated_torque excess_number disagreeing_pairs mixed fold_of pedal_result permitted_result estimate_result excess_result pairs_result results_of expected_of readings_in row_in asked_in first_fault is_all_known first_from
threshold_answered = refl

threshold_accepted : seen (λ parts. map (λ question. question.answer) parts.questions) (calibration_of (option_map (with_answers right) (document_of with_threshold))) ≡ Ok right
unfolding toml_on_literals chars is_utf8 value_at permitted is_excess permitted_torque estimated_torque excess_number disagreeing_pairs mixed fold_of pedal_result permitted_result estimate_result excess_result pairs_result results_of expected_of readings_in row_in asked_in first_fault is_all_known first_from
threshold_accepted = refl

-- a file with this version that ends with these lines of `permit`
abbrev permit_file : List ℕ → List ℕ → List ℕ
permit_file version lines =
    codes "version = " ++ version ++ codes "\n[permit]\npedal = [0, 1]\nspeed = [0, 1]\ntable = [[0, 0], [0, 0]]\n" ++ lines

-- its first refusal, where it is a document
abbrev refused : List ℕ → List ℕ → Option (Option CalFault)
refused version lines = option_map refusal_of (document_of (permit_file version lines))

-- the brake is asked for after the threshold and before `torque.kt`, from version 2 on; a version that isn't known is
-- refused before all else
in_their_order :
    refused (codes "2") [] ∷ refused (codes "2") (codes "threshold = 0\n") ∷ refused (codes "2") (codes "threshold = 0\nbrake = 1\n")
    ∷ refused (codes "2") (codes "threshold = 0\nbrake = \"true\"\n") ∷ refused (codes "2") (codes "threshold = 0\nbrake = false\n")
    ∷ refused (codes "1") (codes "threshold = 0\n") ∷ refused (codes "1") (codes "threshold = 0\nbrake = true\n")
    ∷ refused (codes "0") [] ∷ refused (codes "4") (codes "threshold = 0\nbrake = true\nfall = 0\n") ∷ refused (codes "\"2\"") (codes "threshold = 0\nbrake = true\n") ∷ []
    ≡ map (λ k. Some (Some (Key k))) (
    key.PermitThreshold ∷ key.PermitBrake ∷ key.PermitBrake
    ∷ key.PermitBrake ∷ key.TorqueKt
    ∷ key.TorqueKt ∷ key.TorqueKt
    ∷ key.Version ∷ key.Version ∷ key.Version ∷ [])
unfolding toml_on_literals chars is_utf8 readings_in row_in asked_in first_fault is_all_known first_from
in_their_order = refl

-- the fall is asked for after the brake and before `torque.kt`, in version 3 alone, and is a number from 0 to 10000
fall_in_order :
    refused (codes "3") (codes "threshold = 0\nfall = 50\n") ∷ refused (codes "3") (codes "threshold = 0\nbrake = true\n")
    ∷ refused (codes "3") (codes "threshold = 0\nbrake = true\nfall = 10001\n") ∷ refused (codes "3") (codes "threshold = 0\nbrake = true\nfall = 50.0\n")
    ∷ refused (codes "3") (codes "threshold = 0\nbrake = true\nfall = -1\n") ∷ refused (codes "3") (codes "threshold = 0\nbrake = true\nfall = 0\n")
    ∷ refused (codes "3") (codes "threshold = 0\nbrake = true\nfall = 10000\n") ∷ refused (codes "2") (codes "threshold = 0\nbrake = true\nfall = 50\n") ∷ []
    ≡ map (λ k. Some (Some (Key k))) (
    key.PermitBrake ∷ key.PermitFall
    ∷ key.PermitFall ∷ key.PermitFall
    ∷ key.PermitFall ∷ key.TorqueKt
    ∷ key.TorqueKt ∷ key.TorqueKt ∷ [])
unfolding toml_on_literals chars is_utf8 readings_in row_in asked_in first_fault is_all_known first_from
fall_in_order = refl

-- what is said of its names
abbrev named : List ℕ → List ℕ → Option (Option CalFault)
named version lines = option_map unknown_fault (document_of (permit_file version lines))

names : named (codes "2") (codes "brake = 1\n") ∷ named (codes "1") (codes "brake = true\n") ∷ named (codes "1") [] ∷ named (codes "2") (codes "brakes = true\n")
    ∷ named (codes "3") (codes "brake = 1\nfall = true\n") ∷ named (codes "2") (codes "brake = true\nfall = 50\n") ∷ named (codes "1") (codes "fall = 50\n")
    ∷ named (codes "3") (codes "brake = true\nfalls = 50\n") ∷ []
    ≡ Some None ∷ Some (Some (Key key.Unknown)) ∷ Some None ∷ Some (Some (Key key.Unknown))
    ∷ Some None ∷ Some (Some (Key key.Unknown)) ∷ Some (Some (Key key.Unknown))
    ∷ Some (Some (Key key.Unknown)) ∷ []
unfolding toml_on_literals chars is_utf8 is_all_known
names = refl

-- whether the brake counts
abbrev counts : List ℕ → List ℕ → Option Bool
counts version lines = option_map brake_of (document_of (permit_file version lines))

brakes : counts (codes "2") (codes "brake = true\n") ∷ counts (codes "2") (codes "brake = false\n") ∷ counts (codes "1") (codes "brake = true\n")
    ∷ counts (codes "3") (codes "brake = true\nfall = 50\n") ∷ []
    ≡ Some true ∷ Some false ∷ Some false ∷ Some true ∷ []
unfolding toml_on_literals chars is_utf8
brakes = refl

-- by how much the permitted torque may fall, 65535 standing for no ramp
abbrev fall : List ℕ → List ℕ → Option ℕ
fall version lines = option_map fall_of (document_of (permit_file version lines))

falls : fall (codes "3") (codes "fall = 0\n") ∷ fall (codes "3") (codes "fall = 10000\n") ∷ fall (codes "2") (codes "fall = 50\n") ∷ fall (codes "1") (codes "fall = 50\n") ∷ []
    ≡ Some 0 ∷ Some 10000 ∷ Some 65535 ∷ Some 65535 ∷ []
unfolding toml_on_literals chars is_utf8
falls = refl
