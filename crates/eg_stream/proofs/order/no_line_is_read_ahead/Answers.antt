use Rattle.eg_stream.specs.Couplings.{couple_work}
use Rattle.eg_stream.specs.Recordings.{replay_work, signals_work}
use Rattle.eg_stream.proofs.LawLemmas.{reads_no_line_ahead}
use Rattle.eg_stream.proofs.order.no_line_is_read_ahead.Goals as goal

pub returns : goal.returns
returns c = record {
  signals = λ cal. reads_no_line_ahead (signals_work cal);
  replay = λ cal. reads_no_line_ahead (replay_work cal);
  couple = λ unit. reads_no_line_ahead (couple_work unit);
}
