use Rattle.std.proofs.Common.{◌≡◌, ◌++◌, drop}
use Rattle.eg_asm.specs.Listings.{source_text}
use Rattle.eg_asm.proofs.listing.disassemble.Given as goal

-- the lines of the words before, and those of the words that are left
abbrev pub invariant-loop-word : goal.invariant-loop-word
invariant-loop-word l = l.text.items ++ source_text (drop l.word-index l.words) ≡ source_text l.words
