use Rattle.std.proofs.Common.{◌≤◌, length}
use Rattle.std.specs.Slice.Iter.{split_inclusive_rest}
use Rattle.eg_input.specs.Images.{lines_of, word_of}
use Rattle.eg_input.proofs.Seen.{Seen}
use Rattle.eg_input.proofs.image.read_image.Given as goal

abbrev pub invariant-loop-line : goal.invariant-loop-line
invariant-loop-line l = record {
  can : (goal.iterator-loop-line).can_next l.line-iterator;
  finite : (goal.iterator-loop-line).is_finite l.line-iterator;
  seen : Seen word_of (lines_of l.bytes) (lines_of (split_inclusive_rest l.line-iterator)) l.words.items (length l.words.items);
  few : length l.words.items ≤ 1024;
}
