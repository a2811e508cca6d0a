use Rattle.std.proofs.Common.{drop}
use Rattle.std.specs.Prelude.{Result}
use Rattle.eg_base.specs.declared.no_memory.NoMemory.{NoMemory}
use Rattle.eg_guard.specs.Memory.{ShownMemory}
use Rattle.eg_level2.specs.Words.{word_at}
use Rattle.eg_level2.specs.Inner.Stores.{Makes}
use Rattle.eg_level2.specs.Stores.{both_from}
use Rattle.eg_level2.proofs.StoreLemmas.{MirrorBelow}
use Rattle.eg_level2.proofs.words.keep_all.Given as goal

-- so many words are stored with their complements: whoever stores the rest has stored all
abbrev pub invariant-loop-number : goal.invariant-loop-number
invariant-loop-number g l = record {
  makes : (new : ShownMemory) (result : Result (Unit {0}) NoMemory) → Makes (both_from l.number (drop l.number l.fn.words)) (g.M.Guarded.shows l.memory) new result
      → Makes (both_from 0 l.fn.words) (g.M.Guarded.shows l.fn.memory) new result;
  mirrored : MirrorBelow l.number (word_at (g.M.Guarded.shows l.memory).words);
}
