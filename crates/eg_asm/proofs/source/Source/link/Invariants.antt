use Rattle.std.proofs.Common.{◌≡◌, ◌++◌, drop, map}
use Rattle.eg_asm.specs.Words.{Labels}
use Rattle.eg_asm.specs.Inner.Kept.{placed_shown}
use Rattle.eg_asm.specs.Inner.Linking.{unresolved, completed_words, HasLabels}
use Rattle.eg_asm.proofs.source.Source.link.Given as goal

-- the instructions before have these words, and none of them is without one
abbrev pub invariant-loop-address : goal.invariant-loop-address
invariant-loop-address l = record {
  words : (labels : Labels) → HasLabels l.self.labels labels
      → l.words.items ++ completed_words labels l.address (drop l.address (map placed_shown l.self.instructions.items)) ≡ completed_words labels 0 (map placed_shown l.self.instructions.items);
  resolved : (labels : Labels) → HasLabels l.self.labels labels
      → unresolved labels l.address (drop l.address (map placed_shown l.self.instructions.items)) ≡ unresolved labels 0 (map placed_shown l.self.instructions.items);
}
