use Rattle.eg_input.proofs.LengthLaws.{longest_header, recorded_of-long, columns_of-long, recorded_of-seen, columns_of-seen}
use Rattle.eg_input.proofs.recorded.long_lines_write_nothing.Goals as goal

pub returns : goal.returns
returns c = record {
  header = columns_of-long;
  tick = recorded_of-long;
  longest = longest_header;
  seen_header = columns_of-seen;
  seen_tick = recorded_of-seen;
}
