use Rattle.std.proofs.Common.{◌≡◌, ℕ, ◌+◌, ◌<◌, ◌≤◌, length, slice_index}
use Rattle.eg_num.proofs.axis.Axis.locate.Given as goal

abbrev pub invariant-loop-i : goal.invariant-loop-i
invariant-loop-i l = record {
  index : l.index + 2 ≤ length l.points;
  behind : l.index < l.i;
  else_0 : l.x < slice_index l.points 0 → l.index ≡ 0;
  at_most : slice_index l.points 0 ≤ l.x → slice_index l.points l.index ≤ l.x;
  greatest : (k : ℕ) → k < l.i → slice_index l.points k ≤ l.x → k ≤ l.index;
}
