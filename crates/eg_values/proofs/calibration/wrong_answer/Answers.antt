use Rattle.std.proofs.Common.{subst, ◌<◌, ◌^◌, arith}
use Rattle.eg_answer.specs.Questions.{question_at}
use Rattle.eg_answer.specs.declared.rules.TestRow.{TestRow}
use Rattle.eg_values.specs.Calibration.{HasRightAnswer}
use Rattle.eg_values.proofs.CalibrationLemmas.{one_more, at_each}
use Rattle.eg_values.proofs.calibration.wrong_answer.Goals as goal

pub loop-i-preserved : goal.loop-i-preserved
loop-i-preserved c = record {
  right = one_more (λ k. HasRightAnswer c.args.rules.now (question_at c.args.questions.now k)) c.loop-i.i
      c.loop-i.invariant.right cc;
  seeds = one_more (λ k. (question_at c.args.questions.now k).row.seed < 2 ^ 16) c.loop-i.i c.loop-i.invariant.seeds
      (subst (λ (row : TestRow). row.seed < 2 ^ 16) c.row.ensures c.expected.ensures.seed);
}

pub returns-clause-answered : goal.returns-clause-answered
returns-clause-answered c =
    at_each (HasRightAnswer c.args.rules.now) c.args.questions.now
    (λ k within. c.loop-i.invariant.right k (omega (arith, within, c.loop-i-test.false, c.len-i-end.ensures.length)))

pub returns-clause-seeds : goal.returns-clause-seeds
returns-clause-seeds c = at_each (λ question. question.row.seed < 2 ^ 16) c.args.questions.now
    (λ k within. c.loop-i.invariant.seeds k (omega (arith, within, c.loop-i-test.false, c.len-i-end.ensures.length)))
