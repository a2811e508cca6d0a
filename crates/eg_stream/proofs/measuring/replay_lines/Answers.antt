use Rattle.std.proofs.Common.{sym, subst, []}
use Rattle.eg_outcome.specs.Changes.{change}
use Rattle.eg_outcome.specs.Outcomes.{PutsNothing}
use Rattle.eg_stream.specs.Recordings.{replay_in, replay_work, RecordingEnds}
use Rattle.eg_stream.proofs.StreamLemmas.{stream-says}
use Rattle.eg_stream.proofs.MeasuringLemmas.{recording-refuses}
use Rattle.eg_stream.proofs.measuring.replay_lines.Goals as goal

pub returns : goal.returns
returns g c =
    let lines = change (g.L.Lines.shows c.args.lines.now) (g.L.Lines.shows c.put_replay.new.lines) in
    let out = change (g.K.Sink.shows c.args.out.now) (g.K.Sink.shows c.put_replay.new.out) in
    let cal = c.args.calibration.now in
    let ends = subst (RecordingEnds (replay_work cal) lines out) (sym c.end_of.ensures) c.put_replay.ensures.ends in
    record {
      ends = ends;
      no_memory = (stream-says (replay_work cal) ends.0 lines out c.end_of.result (recording-refuses (λ state. []) (replay_in cal)) ends.1).0;
      nothing_put = λ nothing. c.put_replay.ensures.nothing_put (subst PutsNothing c.end_of.ensures nothing);
    }
