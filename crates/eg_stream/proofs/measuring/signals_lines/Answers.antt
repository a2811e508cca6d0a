use Rattle.std.proofs.Common.{sym, subst}
use Rattle.eg_outcome.specs.Changes.{change}
use Rattle.eg_stream.specs.Recordings.{signals_in, signals_so_far, signals_work, RecordingEnds}
use Rattle.eg_stream.proofs.StreamLemmas.{stream-says}
use Rattle.eg_stream.proofs.MeasuringLemmas.{recording-refuses}
use Rattle.eg_stream.proofs.measuring.signals_lines.Goals as goal

pub returns : goal.returns
returns g c =
    let lines = change (g.L.Lines.shows c.args.lines.now) (g.L.Lines.shows c.put_signals.new.lines) in
    let out = change (g.K.Sink.shows c.args.out.now) (g.K.Sink.shows c.put_signals.new.out) in
    let cal = c.args.calibration.now in
    let ends = subst (RecordingEnds (signals_work cal) lines out) (sym c.end_of.ensures) c.put_signals.ensures in
    record {
      ends = ends;
      no_memory = (stream-says (signals_work cal) ends.0 lines out c.end_of.result (recording-refuses (signals_so_far cal) (signals_in cal)) ends.1).0;
    }
