use Rattle.std.proofs.Common.{◌≡◌, length}
use Rattle.eg_toml.specs.Inner.Comments.{IsKeptBy}
use Rattle.eg_toml.specs.Weight.{weight_of}
use Rattle.eg_toml.proofs.comments.below_comments.Given as goal

abbrev pub invariant-loop-behind : goal.invariant-loop-behind
invariant-loop-behind l = record {
  same : IsKeptBy l.bytes l.rest;
  weight : weight_of l.rest ≡ weight_of l.bytes;
}

abbrev pub decreases-loop-behind : goal.decreases-loop-behind
decreases-loop-behind l = length l.rest
