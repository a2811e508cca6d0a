use Rattle.std.proofs.Common.{All, Some, take}
use Rattle.eg_campaign.specs.Inner.Checkpoints.{IsWantedFor}
use Rattle.eg_campaign.proofs.wanted.wanted_under.Given as goal

-- what runs under the faults so far want is wanted
abbrev pub invariant-loop-fault : goal.invariant-loop-fault
invariant-loop-fault l = record {
  wanted : All (λ fault. IsWantedFor l.wanted (Some fault)) (take l.fault-index l.faults);
}
