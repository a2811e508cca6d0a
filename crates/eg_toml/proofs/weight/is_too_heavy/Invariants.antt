use Rattle.std.proofs.Common.{◌≡◌, ◌≤◌, ◌-◌, length}
use Rattle.std.specs.Prelude.{fold}
use Rattle.eg_toml.specs.Weight.{weighed_on, unweighed, heaviest}
use Rattle.eg_toml.proofs.WeightLemmas.{CountsUpTo}
use Rattle.eg_toml.proofs.weight.is_too_heavy.Given as goal

-- what is known behind the bytes before the rest, and all of them with the rest
abbrev pub invariant-loop-rest : goal.invariant-loop-rest
invariant-loop-rest l = record {
  whole : fold weighed_on l.scale l.rest ≡ fold weighed_on unweighed l.bytes;
  small : l.scale.weight ≤ heaviest;
  left : length l.rest ≤ length l.bytes;
  counts : CountsUpTo (length l.bytes - length l.rest) l.scale;
}

abbrev pub decreases-loop-rest : goal.decreases-loop-rest
decreases-loop-rest l = length l.rest
