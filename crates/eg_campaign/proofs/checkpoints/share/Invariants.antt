use Rattle.std.proofs.Common.{IsTrue, not, ◌==◌}
use Rattle.eg_model.specs.Bench.{Run}
use Rattle.eg_campaign.specs.Plays.{run_with}
use Rattle.eg_campaign.specs.Groups.{faultless}
use Rattle.eg_campaign.specs.Inner.Checkpoints.{HasMade, AreCheckpoints}
use Rattle.eg_campaign.proofs.checkpoints.share.Given as goal

-- the ticks so far of the run without a fault are played and counted, over a sure memory, and it is kept at the
-- hundredths among them where that is wanted
abbrev pub invariant-loop-tick : goal.invariant-loop-tick
invariant-loop-tick g l =
    let bench = g.E.BenchedEngine.bench in
    let weighed = not (g.row.WEIGHED == 0) in
    let come_to = g.E.BenchedEngine.come_to in
    let r : Run = (run_with l.calibration (faultless l.input)).run in
    record {
      sure : IsTrue l.played.controller.kept.memory.sure;
      made : HasMade weighed bench come_to r 0 l.tick l.played l.fn.steps l.steps;
      kept : AreCheckpoints weighed bench come_to r l.wanted l.tick l.checkpoints.items;
    }
