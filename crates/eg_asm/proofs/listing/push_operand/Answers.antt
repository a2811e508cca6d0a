use Rattle.std.proofs.Common.{◌≡◌, ◌∙◌, mod-lt, ap, refl, ◌<◌, ◌*◌, ◌/◌, ◌%◌, ◌++◌, ◌∷◌, [], List, ℕ, arith, append_assoc}
use Rattle.std.proofs.lemmas.Bool.Decides.{nat_tests}
use Rattle.std.proofs.lemmas.Grind.{common_steps}
use Rattle.std.proofs.lemmas.Result.{on_ok_weaker}
use Rattle.eg_asm.specs.Numerals.{numeral}
use Rattle.eg_asm.specs.Grammar.{text_of_value}
use Rattle.eg_asm.specs.Listings.{value_in}
use Rattle.eg_asm.specs.Inner.Usable.{is_usable}
use Rattle.eg_asm.proofs.listing.push_operand.Goals as goal

pub nonzero_div-word : goal.nonzero_div-word
unfolding is_usable
nonzero_div-word c = let usable = rw c.in-Register.is at c.requires in grind (arith, nat_tests)

pub nonzero_rem-word-in-Target : goal.nonzero_rem-word-in-Target
unfolding is_usable
nonzero_rem-word-in-Target c = let usable = rw c.in-Target.is at c.requires in grind (arith, nat_tests)

pub push_signed-requires-clause-below : goal.push_signed-requires-clause-below
unfolding is_usable
push_signed-requires-clause-below c =
    let usable = rw c.in-Target.is at c.requires in
    let some : 0 < 2 * c.from-reach.result = grind (arith, nat_tests) in
    mod-lt c.from-word.result some

pub returns-in_ok-push-in-Register : goal.returns-in_ok-push-in-Register
unfolding text_of_value value_in
returns-in_ok-push-in-Register c =
    let pushed : c.push.new.self.items ≡ c.args.text.now.items ++ 114 ∷ [] = grind (arith, common_steps) in
    let n = c.from-word.result / c.from.result % 8 in
    on_ok_weaker c.push_number.result (λ h. h ∙ ap (λ (l : List ℕ). l ++ numeral n) pushed ∙ append_assoc c.args.text.now.items (114 ∷ []) (numeral n)
    ∙ rw (c.in-Register.is, c.from-word.ensures, c.from.ensures) refl) c.push_number.ensures

pub returns-in-Number : goal.returns-in-Number
unfolding text_of_value value_in
returns-in-Number c = on_ok_weaker c.push_number-in-Number.result (λ h. h ∙ rw (c.in-Number.is, c.from-word.ensures, c.from-in-Number.ensures) refl) c.push_number-in-Number.ensures

pub returns-in-Target : goal.returns-in-Target
unfolding text_of_value value_in
returns-in-Target c = on_ok_weaker c.push_signed.result (λ h. h ∙ rw (c.in-Target.is, c.from-word.ensures, c.from-reach.ensures) refl) c.push_signed.ensures
