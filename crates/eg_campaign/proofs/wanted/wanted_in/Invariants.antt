use Rattle.eg_campaign.specs.Inner.Checkpoints.{AreWantedIn}
use Rattle.eg_campaign.proofs.wanted.wanted_in.Given as goal

-- what the runs of the group among the inputs so far want is wanted
abbrev pub invariant-loop-i : goal.invariant-loop-i
invariant-loop-i l = record {
  wanted : AreWantedIn l.inputs l.leaders l.index l.i l.wanted;
}
