use Rattle.std.specs.Slice.Iter.{split_inclusive_rest}
use Rattle.eg_asm.proofs.ReadLemmas.{IsRead}
use Rattle.eg_asm.proofs.assembler.read_source.Given as goal

abbrev pub invariant-loop-line : goal.invariant-loop-line
invariant-loop-line l = record {
  can : (goal.iterator-loop-line).can_next l.line-iterator;
  finite : (goal.iterator-loop-line).is_finite l.line-iterator;
  read : IsRead l.bytes (split_inclusive_rest l.line-iterator) l.source l.number;
}
