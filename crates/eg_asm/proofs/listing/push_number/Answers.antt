use Rattle.std.proofs.Common.{◌≡◌, ◌∙◌, ap, ◌++◌, List, ℕ, arith}
use Rattle.std.proofs.lemmas.Grind.{common_steps}
use Rattle.eg_asm.specs.Numerals.{numeral}
use Rattle.eg_asm.proofs.NumeralLaws.{numeral-decimal}
use Rattle.eg_asm.proofs.listing.push_number.Goals as goal

pub returns : goal.returns
returns c =
    let digits : c.as_bytes.result.now ≡ numeral c.args.number = c.as_bytes.ensures.value ∙ c.format.ensures.text ∙ numeral-decimal c.args.number (omega arith) in
    let pushed : c.extend_from_slice.new.self.items ≡ c.args.text.now.items ++ c.as_bytes.result.now = grind (arith, common_steps) in
    pushed ∙ ap (λ (l : List ℕ). c.args.text.now.items ++ l) digits
