use Rattle.std.proofs.Common.{◌≡◌, ◌++◌, take, map}
use Rattle.eg_asm.specs.Grammar.{text_of_values}
use Rattle.eg_asm.specs.Listings.{value_in}
use Rattle.eg_asm.proofs.listing.push_operands.Given as goal

-- the values of the operands before
abbrev pub invariant-loop-i : goal.invariant-loop-i
invariant-loop-i l = l.text.items ≡ l.fn.text.items ++ text_of_values (map (value_in l.word) (take l.i l.operands))
