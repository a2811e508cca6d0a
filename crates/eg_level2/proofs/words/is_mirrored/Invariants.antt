use Rattle.std.proofs.Common.{◌↔◌, IsTrue}
use Rattle.eg_level2.specs.Words.{word_at}
use Rattle.eg_level2.proofs.StoreLemmas.{MirrorBelow}
use Rattle.eg_level2.proofs.words.is_mirrored.Given as goal

-- whether each word so far and its complement add up to 65535
abbrev pub invariant-loop-number : goal.invariant-loop-number
invariant-loop-number g l = IsTrue l.same ↔ MirrorBelow l.number (word_at (g.M.Guarded.shows l.fn.memory).words)
