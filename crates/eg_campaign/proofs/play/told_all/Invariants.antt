use Rattle.std.proofs.Common.{not, ◌==◌}
use Rattle.eg_campaign.specs.Inner.Checkpoints.{AreFor}
use Rattle.eg_campaign.proofs.AllGroups.{Goes}
use Rattle.eg_campaign.proofs.play.told_all.Given as goal

-- the groups that are led by the runs so far are played
abbrev pub invariant-loop-i : goal.invariant-loop-i
invariant-loop-i g l = record {
  benches : AreFor l.calibration l.benches;
  goes : Goes (not (g.row.WEIGHED == 0)) l.calibration l.inputs l.i l.told.items l.fn.steps l.steps;
}
