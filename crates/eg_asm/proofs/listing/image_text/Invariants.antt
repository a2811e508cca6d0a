use Rattle.std.proofs.Common.{◌≡◌, ◌++◌, drop}
use Rattle.eg_asm.specs.Listings.{image_text}
use Rattle.eg_asm.proofs.listing.image_text.Given as goal

-- the lines of the words before, and those of the words that are left
abbrev pub invariant-loop-word : goal.invariant-loop-word
invariant-loop-word l = l.text.items ++ image_text (drop l.word-index l.words) ≡ image_text l.words
