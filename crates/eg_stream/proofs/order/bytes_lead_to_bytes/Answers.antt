use Rattle.eg_stream.specs.Couplings.{couple_work}
use Rattle.eg_stream.specs.Recordings.{replay_work, signals_work}
use Rattle.eg_stream.proofs.LawLemmas.{bytes_lead_to_bytes}
use Rattle.eg_stream.proofs.order.bytes_lead_to_bytes.Goals as goal

pub returns : goal.returns
returns c = record {
  signals = λ cal. bytes_lead_to_bytes (signals_work cal);
  replay = λ cal. bytes_lead_to_bytes (replay_work cal);
  couple = λ unit. bytes_lead_to_bytes (couple_work unit);
}
