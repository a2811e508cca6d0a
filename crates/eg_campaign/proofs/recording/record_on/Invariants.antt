use Rattle.std.proofs.Common.{◌≡◌, true}
use Rattle.eg_model.specs.Bench.{Run}
use Rattle.eg_tick.specs.Run.{IsAt}
use Rattle.eg_campaign.specs.Plays.{run_with}
use Rattle.eg_campaign.proofs.RecordLemmas.{HasWritten}
use Rattle.eg_campaign.proofs.recording.record_on.Given as goal

-- the controller stands for the ticks so far, and their lines are written whole
abbrev pub invariant-loop-tick : goal.invariant-loop-tick
invariant-loop-tick g l =
    let bench = g.E.BenchedEngine.bench in
    let r : Run = (run_with l.calibration l.input).run in
    record {
      ticks : l.controller.kept.ticks ≡ l.tick;
      sure : l.controller.kept.memory.sure ≡ true;
      at : IsAt bench g.E.BenchedEngine.come_to r l.tick l.controller;
      written : HasWritten bench r l.tick (g.K.Sink.shows l.fn.out) (g.K.Sink.shows l.out) l.fn.steps l.steps;
    }
