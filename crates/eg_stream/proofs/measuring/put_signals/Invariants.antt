use Rattle.std.proofs.Common.{List}
use Rattle.eg_outcome.specs.Changes.{change}
use Rattle.eg_input.specs.declared.recorded.Recorded.{Recorded}
use Rattle.eg_stream.specs.Streams.{HasWritten}
use Rattle.eg_stream.specs.Recordings.{signals_in, signals_so_far}
use Rattle.eg_stream.proofs.MeasuringLemmas.{HasRead}
use Rattle.eg_stream.proofs.measuring.put_signals.Given as goal

-- the lines so far were read, and a row was put for each
abbrev pub invariant-loop-tick : goal.invariant-loop-tick
invariant-loop-tick g l =
    (recorded : List Recorded)
    × HasRead (signals_so_far l.calibration) (signals_in l.calibration) l.calibration l.recording.columns recorded l.tick l.replay
    (change (g.L.Lines.shows l.fn.lines) (g.L.Lines.shows l.lines))
    × HasWritten (signals_in l.calibration recorded) (change (g.K.Sink.shows l.fn.out) (g.K.Sink.shows l.out))
