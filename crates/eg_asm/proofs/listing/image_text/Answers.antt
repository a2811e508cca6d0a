use Rattle.std.proofs.Common.{◌≡◌, arith}
use Rattle.std.proofs.lemmas.Grind.{common_steps}
use Rattle.eg_asm.specs.Listings.{image_text}
use Rattle.eg_asm.proofs.ImageLaws.{image-law}
use Rattle.eg_asm.proofs.listing.image_text.Goals as goal

pub returns-clause-image : goal.returns-clause-image
returns-clause-image c =
    let text : c.loop-word.text.items ≡ image_text c.args.words.now = grind (arith, common_steps) in
    λ few. rw text (image-law c.args.words.now (λ i. omega (arith, c.type_inv.words i)) few)
