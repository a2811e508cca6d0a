use Rattle.std.proofs.Common.{◌≡◌, ◌≤◌, map, drop, length, not, ◌==◌}
use Rattle.std.specs.Prelude.{filter, slice_index_or}
use Rattle.std.specs.List.{flat_map}
use Rattle.eg_record.specs.declared.run_facts.RunFacts.{RunFacts}
use Rattle.eg_plan.specs.declared.run_input.RunInput.{RunInput}
use Rattle.eg_campaign.specs.Groups.{is_alike, own_on, rows_shared, told_on, written_over}
use Rattle.eg_campaign.proofs.OneGroup.{Counted, written_to}
use Rattle.eg_campaign.proofs.groups.play_group.Given as goal

-- up to this place each run of the group is told and counted
abbrev pub invariant-loop-i : goal.invariant-loop-i
invariant-loop-i g l =
    let bench = g.E.BenchedEngine.bench in
    record {
      least : l.index ≤ l.i;
      cal : l.played.controller.kept.cal ≡ l.calibration;
      places : length l.told ≡ length l.inputs;
      told : (x : RunInput) → x ≡ slice_index_or l.inputs l.index x → (before : RunInput → RunFacts) → l.fn.told ≡ map before l.inputs →
          l.told ≡ written_to (written_over (told_on (not (g.row.WEIGHED == 0)) bench l.calibration) x before) before l.inputs l.i;
      counts : (x : RunInput) → x ≡ slice_index_or l.inputs l.index x →
          Counted l.fn.steps l.steps (flat_map (own_on bench l.calibration) (filter (is_alike x) (drop l.i l.inputs)))
          (rows_shared bench l.calibration l.inputs x);
    }
