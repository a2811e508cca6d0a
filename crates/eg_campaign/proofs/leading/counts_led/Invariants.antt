use Rattle.std.proofs.Common.{◌≡◌, ◌==◌, ◌<◌, ℕ, length, take, get_or}
use Rattle.std.specs.Prelude.{filter}
use Rattle.eg_campaign.proofs.leading.counts_led.Given as goal

-- how many of the leaders so far each one is
abbrev pub invariant-loop-leader : goal.invariant-loop-leader
invariant-loop-leader l = record {
  as_many : length l.counts.items ≡ length l.leaders;
  each : (k : ℕ) → k < length l.leaders → get_or l.counts.items k 0 ≡ length (filter (λ leader. leader == k) (take l.leader-index l.leaders));
}
