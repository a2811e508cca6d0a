use Rattle.std.proofs.Common.{ℕ, ◌<◌, ◌^◌}
use Rattle.eg_answer.specs.Questions.{question_at}
use Rattle.eg_values.specs.Calibration.{HasRightAnswer}
use Rattle.eg_values.proofs.calibration.wrong_answer.Given as goal

-- the questions so far have their rows' folds as answers, and their seeds are words
abbrev pub invariant-loop-i : goal.invariant-loop-i
invariant-loop-i l = record {
  right : (k : ℕ) → k < l.i → HasRightAnswer l.rules (question_at l.questions k);
  seeds : (k : ℕ) → k < l.i → (question_at l.questions k).row.seed < 2 ^ 16;
}
