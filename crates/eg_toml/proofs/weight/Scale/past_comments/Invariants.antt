use Rattle.std.proofs.Common.{◌≡◌, ◌≤◌, length}
use Rattle.std.specs.Prelude.{fold}
use Rattle.eg_toml.specs.Weight.{weighed_on}
use Rattle.eg_toml.proofs.weight.Scale.past_comments.Given as goal

abbrev pub invariant-loop-rest : goal.invariant-loop-rest
invariant-loop-rest l = record {
  same : fold weighed_on l.self l.rest ≡ fold weighed_on l.self l.bytes;
  short : length l.rest ≤ length l.bytes;
}

abbrev pub decreases-loop-rest : goal.decreases-loop-rest
decreases-loop-rest l = length l.rest
