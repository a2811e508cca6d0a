use Rattle.eg_input.proofs.LengthLaws.{longest_answer, answer_of-long, answer_of-seen}
use Rattle.eg_input.proofs.answered.long_lines_answer_nothing.Goals as goal

pub returns : goal.returns
returns c = record {
  none = answer_of-long;
  longest = longest_answer;
  seen = answer_of-seen;
}
