use Rattle.std.proofs.Common.{◌≡◌, map, take}
use Rattle.eg_campaign.specs.Plays.{report_with}
use Rattle.eg_campaign.proofs.play.summaries_of.Given as goal

-- what the report says of the runs so far
abbrev pub invariant-loop-i : goal.invariant-loop-i
invariant-loop-i l = l.summaries.items ≡ map (report_with l.calibration) (take l.i l.inputs)
