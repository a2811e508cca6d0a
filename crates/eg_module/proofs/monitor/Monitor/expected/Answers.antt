use Rattle.std.proofs.Common.{rules}
use Rattle.eg_answer.specs.Answers.{answer_number}
use Rattle.eg_answer.specs.Periods.{expected_number, asked}
use Rattle.eg_module.proofs.monitor.Monitor.expected.Goals as goal

pub returns : goal.returns
unfolding expected_number answer_number asked
returns c = search rules
