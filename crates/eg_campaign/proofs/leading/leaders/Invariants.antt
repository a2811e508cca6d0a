use Rattle.std.proofs.Common.{◌≡◌, map, take, nat_lt, Some, None}
use Rattle.std.specs.Prelude.{if◌then◌else◌}
use Rattle.std.specs.HashMap.{get}
use Rattle.eg_campaign.specs.declared.key.GroupKey.{GroupKey}
use Rattle.eg_campaign.specs.Groups.{leader_in}
use Rattle.eg_campaign.specs.Inner.Keys.{group_number, is_same_key}
use Rattle.eg_campaign.proofs.leading.leaders.Given as goal

-- of the runs so far each has its leader, and the map finds it by a key
abbrev pub invariant-loop-i : goal.invariant-loop-i
invariant-loop-i l = record {
  leaders : l.leaders.items ≡ map (leader_in l.inputs) (take l.i l.inputs);
  firsts : (k : GroupKey) → k.number ≡ group_number k.input.now →
      get is_same_key l.firsts k ≡ (if nat_lt (leader_in l.inputs k.input.now) l.i then Some (leader_in l.inputs k.input.now) else None);
}
