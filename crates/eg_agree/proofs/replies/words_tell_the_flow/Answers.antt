use Rattle.eg_agree.proofs.ReplySteps.{keeps_tick}
use Rattle.eg_agree.proofs.ReplyLaws.{flow_marks}
use Rattle.eg_agree.proofs.replies.words_tell_the_flow.Goals as goal

pub returns-clause-kept : goal.returns-clause-kept
returns-clause-kept c = keeps_tick

pub returns-clause-marks : goal.returns-clause-marks
returns-clause-marks c = flow_marks
