use Rattle.std.proofs.Common.{◌≡◌, ◌∙◌, sym, ap, ◌++◌, ◌∷◌, [], ◌*◌, ◌-◌, List, ℕ, arith, append_assoc}
use Rattle.std.proofs.lemmas.Grind.{common_steps}
use Rattle.std.proofs.lemmas.Result.{on_ok_weaker}
use Rattle.eg_asm.specs.Numerals.{numeral}
use Rattle.eg_asm.proofs.ListingLemmas.{signed-low, signed-high}
use Rattle.eg_asm.proofs.listing.push_signed.Goals as goal

pub returns-then-number-reach : goal.returns-then-number-reach
returns-then-number-reach c =
    on_ok_weaker c.push_number.result (λ h. h ∙ ap (λ (l : List ℕ). c.args.text.now.items ++ l) (sym (signed-low c.args.reach c.args.number c.if-number-reach.true))) c.push_number.ensures

pub returns : goal.returns
returns c =
    let pushed : c.push.new.self.items ≡ c.args.text.now.items ++ 45 ∷ [] = grind (arith, common_steps) in
    on_ok_weaker c.push_number-2.result (λ h. h ∙ ap (λ (l : List ℕ). l ++ numeral (2 * c.args.reach - c.args.number)) pushed ∙ append_assoc c.args.text.now.items (45 ∷ []) (numeral (2 * c.args.reach - c.args.number))
    ∙ ap (λ (l : List ℕ). c.args.text.now.items ++ l) (sym (signed-high c.args.reach c.args.number c.if-number-reach.false c.requires.below))) c.push_number-2.ensures
