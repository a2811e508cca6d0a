use Rattle.std.proofs.Common.{◌≡◌, ◌∙◌, refl, sym, ap, ◌++◌, ◌∷◌, ◌+◌, [], List, ℕ, length, take, get_or, map, arith, append-nil, append_assoc}
use Rattle.std.proofs.lemmas.Grind.{common_steps}
use Rattle.std.proofs.lemmas.List.{length-map, length-take-le}
use Rattle.eg_asm.specs.declared.operand.Operand.TheVariants.{Register}
use Rattle.eg_asm.specs.Grammar.{text_of_value, text_of_values}
use Rattle.eg_asm.specs.Listings.{value_in}
use Rattle.eg_asm.proofs.ListingLemmas.{text_of_values-more, listed-one}
use Rattle.eg_asm.proofs.listing.push_operands.Goals as goal

pub loop-i-init : goal.loop-i-init
unfolding text_of_values
loop-i-init c = sym (append-nil c.args.text.now.items)

pub loop-i-preserved : goal.loop-i-preserved
loop-i-preserved c =
    let operands = c.args.operands.now in
    let i = c.loop-i.i in
    let before = map (value_in c.args.word) (take i operands) in
    let value = value_in c.args.word (get_or operands i (Register 0)) in
    let inside = c.loop-i-test.true in
    let long : length before ≡ i = omega (arith, length-map (take i operands) (value_in c.args.word), length-take-le i operands (omega arith)) in
    let first : c.push.new.self.items ≡ c.loop-i.text.items ++ c.separator.result ∷ [] = grind (arith, common_steps) in
    let pushed : c.push_operand.new.text.items ≡ c.loop-i.text.items ++ c.separator.result ∷ text_of_value value =
    c.in_ok-push_operand.ensures ∙ ap (λ (l : List ℕ). l ++ text_of_value value) first ∙ append_assoc c.loop-i.text.items (c.separator.result ∷ []) (text_of_value value) in
    let more : text_of_values (map (value_in c.args.word) (take (i + 1) operands)) ≡ text_of_values before ++ c.separator.result ∷ text_of_value value =
    ap text_of_values (listed-one c.args.word i operands (Register 0) inside) ∙ text_of_values-more before value ∙ rw (long, c.separator.ensures) refl in
    pushed ∙ ap (λ (l : List ℕ). l ++ c.separator.result ∷ text_of_value value) c.loop-i.invariant
    ∙ append_assoc c.args.text.now.items (text_of_values before) (c.separator.result ∷ text_of_value value) ∙ ap (λ (l : List ℕ). c.args.text.now.items ++ l) (sym more)
