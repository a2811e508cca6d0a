use Rattle.std.proofs.Common.{◌≡◌, map, take, drop, Some, false}
use Rattle.std.specs.List.{flat_map}
use Rattle.eg_campaign.specs.Groups.{input_under, own_on, rows_under, told_on}
use Rattle.eg_campaign.proofs.OneGroup.{Counted}
use Rattle.eg_campaign.proofs.under.facts_on.Given as goal

-- up to this place the run under each fault is told and counted
abbrev pub invariant-loop-fault : goal.invariant-loop-fault
invariant-loop-fault g l =
    let bench = g.E.BenchedEngine.bench in
    record {
      cal : l.played.controller.kept.cal ≡ l.calibration;
      facts : l.facts.items ≡ map (λ fault. (told_on false bench l.calibration (input_under (Some fault) l.input)).facts) (take l.fault-index l.faults);
      counts : Counted l.fn.steps l.steps (flat_map (λ fault. own_on bench l.calibration (input_under (Some fault) l.input)) (drop l.fault-index l.faults))
          (rows_under bench l.calibration l.input l.faults);
    }
