use Rattle.std.proofs.Common.{◌≡◌, ◌∙◌, refl, sym, ap, ℕ, ◌+◌, ◌<◌, ◌≤◌, List, [], ◌∷◌, ◌++◌, length, drop, get_or, map, Some, None, inr, arith, append_assoc, append-nil}
use Rattle.std.proofs.lemmas.Grind.{common_steps}
use Rattle.std.proofs.lemmas.List.{length-map, get_or-map}
use Rattle.eg_asm.specs.Inner.Kept.{placed_shown}
use Rattle.eg_asm.specs.Inner.Linking.{completed, unresolved, completed_words, earlier, words_unless, linked_kept}
use Rattle.eg_asm.proofs.LinkLemmas.{link-more, link-bad, link-end}
use Rattle.eg_asm.proofs.source.Source.link.Goals as goal

pub returns-in_default : goal.returns-in_default
unfolding linked_kept words_unless
returns-in_default c = λ labels has.
    let kept = map placed_shown c.args.self.now.instructions.items in
    let i = placed_shown c.placed-item.result in
    let items = c.args.self.now.instructions.items in
    let inside : c.loop-address.address < length items = grind (arith, common_steps) in
    let room : c.loop-address.address < length kept = omega (arith, length-map items placed_shown) in
    let same : get_or items c.loop-address.address c.placed-item.result ≡ c.placed-item.result = grind (arith, common_steps) in
    let here : get_or kept c.loop-address.address i ≡ i = get_or-map placed_shown items c.loop-address.address c.placed-item.result i inside ∙ ap placed_shown same in
    let none : None ≡ completed labels c.loop-address.address i.1 = sym c.in_default.is ∙ c.word_of.ensures labels has in
    let bad : unresolved labels 0 kept ≡ Some i.0 = sym (c.loop-address.invariant.resolved labels has) ∙ link-bad labels c.loop-address.address kept i room here none in
    inr (rw (bad, ← c.earlier.ensures) refl)

pub loop-address-preserved : goal.loop-address-preserved
loop-address-preserved c =
    let kept = map placed_shown c.args.self.now.instructions.items in
    let i = placed_shown c.placed-item.result in
    let items = c.args.self.now.instructions.items in
    let inside : c.loop-address.address < length items = grind (arith, common_steps) in
    let room : c.loop-address.address < length kept = omega (arith, length-map items placed_shown) in
    let same : get_or items c.loop-address.address c.placed-item.result ≡ c.placed-item.result = grind (arith, common_steps) in
    let here : get_or kept c.loop-address.address i ≡ i = get_or-map placed_shown items c.loop-address.address c.placed-item.result i inside ∙ ap placed_shown same in
    let pushed : c.push.new.self.items ≡ c.loop-address.words.items ++ c.in-Some.word ∷ [] = grind (arith, common_steps) in
    record {
      words = λ labels has.
          let more = (link-more labels c.loop-address.address kept i c.in-Some.word room here (sym c.in-Some.is ∙ c.word_of.ensures labels has)).1 in
          ap (λ (ws : List ℕ). ws ++ completed_words labels (c.loop-address.address + 1) (drop (c.loop-address.address + 1) kept)) pushed
          ∙ append_assoc c.loop-address.words.items (c.in-Some.word ∷ []) (completed_words labels (c.loop-address.address + 1) (drop (c.loop-address.address + 1) kept))
          ∙ ap (λ (ws : List ℕ). c.loop-address.words.items ++ ws) more ∙ c.loop-address.invariant.words labels has;
      resolved = λ labels has.
          (link-more labels c.loop-address.address kept i c.in-Some.word room here (sym c.in-Some.is ∙ c.word_of.ensures labels has)).0 ∙ c.loop-address.invariant.resolved labels has;
    }

pub returns-in-Some-repeated : goal.returns-in-Some-repeated
unfolding linked_kept words_unless earlier
returns-in-Some-repeated c = λ labels has.
    let kept = map placed_shown c.args.self.now.instructions.items in
    let items = c.args.self.now.instructions.items in
    let outside : length items ≤ c.loop-address.address = grind (arith, common_steps) in
    let end : length kept ≤ c.loop-address.address = omega (arith, length-map items placed_shown) in
    let all : unresolved labels 0 kept ≡ None = sym (c.loop-address.invariant.resolved labels has) ∙ (link-end labels c.loop-address.address kept end).0 in
    inr (rw (all, c.in-Some-repeated.is) refl)

pub returns-in-None : goal.returns-in-None
unfolding linked_kept words_unless earlier
returns-in-None c = λ labels has.
    let kept = map placed_shown c.args.self.now.instructions.items in
    let items = c.args.self.now.instructions.items in
    let outside : length items ≤ c.loop-address.address = grind (arith, common_steps) in
    let end : length kept ≤ c.loop-address.address = omega (arith, length-map items placed_shown) in
    let last = link-end labels c.loop-address.address kept end in
    let all : unresolved labels 0 kept ≡ None = sym (c.loop-address.invariant.resolved labels has) ∙ last.0 in
    let words : completed_words labels 0 kept ≡ c.loop-address.words.items =
    sym (c.loop-address.invariant.words labels has) ∙ ap (λ (ws : List ℕ). c.loop-address.words.items ++ ws) last.1 ∙ append-nil c.loop-address.words.items in
    rw (all, c.in-None.is, words) refl
