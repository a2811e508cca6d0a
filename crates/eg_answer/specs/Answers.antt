-- The right answer to a test row (C30, C31). Level 2 works it out once, when level 2 is made.
use Rattle.std.specs.Prelude.{ℕ, ◌+◌, ◌*◌, false, List, [], ◌∷◌}
use Rattle.eg_sensor.specs.Readings.{used_pedal}
use Rattle.eg_answer.specs.Folds.{fold_of}
use Rattle.eg_answer.specs.Formulas.{permitted_torque, estimated_torque, excess_number, disagreeing_pairs}
use Rattle.eg_answer.specs.declared.rules.Rules.{Rules}
use Rattle.eg_answer.specs.declared.rules.TestRow.{TestRow}

-- the first result: the lower of the two pedal values
unfoldable pub pedal_result : TestRow → ℕ
pedal_result row = used_pedal row.readings.pedal false

-- the second: the permitted torque by the row's own pedal, and by the speeds and the raise that are read
unfoldable pub permitted_result : Rules → TestRow → ℕ
permitted_result rules row = permitted_torque rules row.readings row.used

-- the third: the estimate of the higher load
unfoldable pub estimate_result : Rules → TestRow → ℕ
estimate_result rules row = estimated_torque rules row.readings

-- the fourth: 1 if the row's own estimate is an excess over what the row allows, else 0
unfoldable pub excess_result : Rules → TestRow → ℕ
excess_result rules row = excess_number rules row.allowed row.estimate

-- the fifth: the bits of the pairs that disagree
unfoldable pub pairs_result : Rules → TestRow → ℕ
pairs_result rules row = disagreeing_pairs rules row.readings

unfoldable pub results_of : Rules → TestRow → List ℕ
results_of rules row =
    pedal_result row ∷ permitted_result rules row ∷ estimate_result rules row ∷ excess_result rules row
    ∷ pairs_result rules row ∷ []

-- the answer to a row: the fold of its results (C31)
unfoldable pub expected_of : Rules → TestRow → ℕ
expected_of rules row = fold_of row.seed (results_of rules row)

-- the number that the monitoring module expects to hear: 255 in the high word, the answer in the low word
-- (C32)
unfoldable pub answer_number : ℕ → ℕ
answer_number answer = 255 * 65536 + answer
