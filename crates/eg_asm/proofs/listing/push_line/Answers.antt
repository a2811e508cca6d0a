use Rattle.std.proofs.Common.{◌≡◌, ◌∙◌, ap, ◌++◌, ◌∷◌, [], map, List, ℕ, arith, append_assoc}
use Rattle.std.proofs.lemmas.Grind.{common_steps}
use Rattle.eg_asm.specs.Grammar.{text_of_values, text_of, line_of}
use Rattle.eg_asm.specs.Listings.{value_in, item_of}
use Rattle.eg_asm.proofs.listing.push_line.Goals as goal

pub returns : goal.returns
unfolding line_of text_of item_of
returns c =
    let form = c.form_of-form.result.now in
    let values = text_of_values (map (value_in c.args.word) form.operands.now) in
    let named : c.extend_from_slice.new.self.items ≡ c.args.text.now.items ++ form.mnemonic.now = grind (arith, common_steps) in
    let ended : c.push.new.self.items ≡ c.push_operands.new.text.items ++ 10 ∷ [] = grind (arith, common_steps) in
    let line : c.push.new.self.items ≡ c.args.text.now.items ++ ((form.mnemonic.now ++ values) ++ 10 ∷ []) =
    ended ∙ ap (λ (l : List ℕ). l ++ 10 ∷ []) (c.in_ok-push_operands.ensures ∙ ap (λ (l : List ℕ). l ++ values) named ∙ append_assoc c.args.text.now.items form.mnemonic.now values)
    ∙ append_assoc c.args.text.now.items (form.mnemonic.now ++ values) (10 ∷ []) in
    rw (← c.form_of-form.ensures.form) line
