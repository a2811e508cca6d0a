use Rattle.std.proofs.Common.{arith}
use Rattle.eg_desk.proofs.AnswersLemmas.{written-more, written-all}
use Rattle.eg_desk.proofs.answering.answers_text.Goals as goal

pub loop-i-preserved : goal.loop-i-preserved
loop-i-preserved c =
    written-more c.args.questions.now c.loop-i.i _ _ _ (omega (arith, c.loop-i-test.true, c.len-i-end.ensures.length)) c.answer.ensures c.in_ok-push_answer.ensures c.loop-i.invariant

pub returns : goal.returns
returns c = written-all c.args.questions.now c.loop-i.i _ (omega (arith, c.loop-i-test.false, c.len-i-end.ensures.length)) c.loop-i.invariant
