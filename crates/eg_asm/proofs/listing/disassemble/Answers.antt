use Rattle.std.proofs.Common.{◌≡◌, arith}
use Rattle.std.proofs.lemmas.Grind.{common_steps}
use Rattle.eg_asm.specs.Listings.{source_text}
use Rattle.eg_asm.proofs.ListingLaws.{source-law}
use Rattle.eg_asm.proofs.LengthLaws.{short-law}
use Rattle.eg_asm.proofs.listing.disassemble.Goals as goal

pub returns-clause-source : goal.returns-clause-source
returns-clause-source c =
    let text : c.loop-word.text.items ≡ source_text c.args.words.now = grind (arith, common_steps) in
    rw text (source-law c.args.words.now (λ i. omega (arith, c.type_inv.words i)) c.requires)

pub returns-clause-short : goal.returns-clause-short
returns-clause-short c =
    let text : c.loop-word.text.items ≡ source_text c.args.words.now = grind (arith, common_steps) in
    rw text (short-law c.args.words.now)
