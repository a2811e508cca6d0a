use Rattle.std.proofs.Common.{◌≡◌, List, []}
use Rattle.eg_outcome.specs.Changes.{change}
use Rattle.eg_input.specs.declared.recorded.Recorded.{Recorded}
use Rattle.eg_replay.specs.Replay.{replayed, told_of}
use Rattle.eg_replay.specs.Tallies.{IsTallyOf}
use Rattle.eg_stream.specs.Recordings.{replay_in}
use Rattle.eg_stream.proofs.MeasuringLemmas.{HasRead}
use Rattle.eg_stream.proofs.measuring.find.Given as goal

-- the lines so far were read, and the tally stands for their ticks
abbrev pub invariant-loop-tick : goal.invariant-loop-tick
invariant-loop-tick g l = record {
  ticks : l.tally.findings.ticks ≡ l.tick;
  read : (recorded : List Recorded)
      × HasRead (λ state. []) (replay_in l.calibration) l.calibration l.recording.columns recorded l.tick l.replay
      (change (g.L.Lines.shows l.fn.lines) (g.L.Lines.shows l.lines))
      × IsTallyOf l.tally (told_of l.calibration (replayed l.calibration recorded));
}
