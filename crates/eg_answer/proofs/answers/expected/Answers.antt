use Rattle.std.proofs.Common.{rules}
use Rattle.eg_answer.specs.Answers.{expected_of}
use Rattle.eg_answer.proofs.answers.expected.Goals as goal

pub returns : goal.returns
unfolding expected_of
returns c = search rules
